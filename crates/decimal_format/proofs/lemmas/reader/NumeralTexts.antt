-- The digits of a value, and the value of digits.
use Rattle.std.proofs.{Common.{◌≡◌, ℕ, zero, suc, ◌+◌, ◌-◌, ◌*◌, ◌/◌, ◌%◌, ◌^◌, ◌<◌, ◌≤◌, false, List, [], ◌∷◌, ◌++◌, length, take, drop, refl, sym, ◌∙◌, ap, subst, arith, append_assoc, append-nil, length-append, length-drop, take-append-drop, rules}, Math.{Arith.mod-mul, Nat.{pow-suc, mod-lt, mod-one, mod-eq_of_lt, mul-div_cancel, mul-mod_left, div-lt_iff_lt-mul, div-div-eq-div-mul}}, lemmas.{Bool.cases_lt, Int.{ints, clamps, Digits.number_lt}, Nat.{div-add-mod', div-mul-add, mod-mul-add}}}
use Rattle.std.specs.{Int.{Digits.{AllBelowBase, number_from_digits}, int_gap, int_min}, Prelude.{ℤ, pos, negsuc, ◌-ℤ◌}}
use Rattle.decimal_digits.specs.{Digits.number_at, Number.{digit, weight, offset}}
use Rattle.decimal_unsigned.specs.Unsigned.{IsValue}
use Rattle.fixed_decimal.specs.Decimal.{Decimal}
use Rattle.fixed_decimal.proofs.Calling.{number_first, number_at-lt, offset_is, gap_is, ten_pos, powers}
use Rattle.decimal_format.specs.{declared.grouping.GroupingStrategy.GroupingStrategy, Symbols.{Symbols, digit_text}, Grouping.separates, Formatted.{separator_before, separator_after, formatted_down, shown_count, absolute_text, formatted}, Reading.{Numeral, AreDigits, IsBeyondLimits, digits_text, fraction_text, absolute_numeral_text, numeral_text, separated_by}, Scanning.value_of}
use Rattle.decimal_format.proofs.lemmas.reader.{Bcd.{below_append, below_first, below_rest}, DigitTexts.digits_text-first}

-- ---- The digits of a number.
-- those at the given number of magnitudes, from m down
abbrev pub digit_list : ℕ → ℤ → ℕ → List ℕ
digit_list number m zero = []
digit_list number m (suc n) = digit number m ∷ digit_list number (m -ℤ pos 1) n

length-digit_list : (number : ℕ) (m : ℤ) (n : ℕ) → length (digit_list number m n) ≡ n
length-digit_list number m zero = refl
length-digit_list number m (suc n) = ap suc (length-digit_list number (m -ℤ pos 1) n)

digit_list-digits : (number : ℕ) (m : ℤ) (n : ℕ) → AllBelowBase 10 (digit_list number m n)
digit_list-digits number m zero = tt
digit_list-digits number m (suc n) = (mod-lt (number / weight m) (omega arith), digit_list-digits number (m -ℤ pos 1) n)

-- they write the number without its digits at other magnitudes
digit_list-number : (number low : ℕ) (m : ℤ) (n : ℕ) → (0 < n → offset m + 1 ≡ low + n)
    → number_from_digits 10 (digit_list number m n) ≡ number / 10 ^ low % 10 ^ n
digit_list-number number low m zero at = sym (mod-one (number / 10 ^ low))
digit_list-number number low m (suc n) at =
    let rest = digit_list-number number low (m -ℤ pos 1) n in
    let ten = ten_pos n in
    grind (arith, ints, powers, div-div-eq-div-mul, number_first, length-digit_list, mod-mul, ten, pow-suc, offset_is)

-- equally long lists of digits that write the same number are the same
digits_of_number : (ds es : List ℕ) → AllBelowBase 10 ds → AllBelowBase 10 es → length ds ≡ length es
    → number_from_digits 10 ds ≡ number_from_digits 10 es → ds ≡ es
digits_of_number [] [] p q size e = refl
digits_of_number [] (y ∷ es) p q size e = absurd (omega (arith, size))
digits_of_number (x ∷ ds) [] p q size e = absurd (omega (arith, size))
digits_of_number (x ∷ ds) (y ∷ es) p q size e =
    let w = 10 ^ length ds in
    let same : length ds ≡ length es = omega (arith, size) in
    let a = number_from_digits 10 ds in
    let b = number_from_digits 10 es in
    let a_lt = number_lt 10 ds p.1 in
    let b_lt : b < w = subst (λ k. b < 10 ^ k) (sym same) (number_lt 10 es q.1) in
    let both : x * w + a ≡ y * w + b = search (rules, arith, number_first) in
    let first : x ≡ y = sym (div-mul-add x w a a_lt) ∙ ap (λ n. n / w) both ∙ div-mul-add y w b b_lt in
    let others : a ≡ b = sym (mod-mul-add x w a a_lt) ∙ ap (λ n. n % w) both ∙ mod-mul-add y w b b_lt in
    (λ i. first i ∷ digits_of_number ds es p.1 q.1 same others i)

-- ---- The text of digits, the first of them at a magnitude.
module _ (s : Symbols) (g : GroupingStrategy) (hi : ℤ) where
  abbrev list_text : ℤ → List ℕ → List ℕ
  list_text m [] = []
  list_text m (d ∷ ds) =
      (separator_before s m ++ (digit_text s d ++ separator_after s g hi m)) ++ list_text (m -ℤ pos 1) ds

  number_is : (number : ℕ) (m : ℤ) (n : ℕ) → formatted_down s g hi number m n ≡ list_text m (digit_list number m n)
  unfolding formatted_down
  number_is number m zero = refl
  number_is number m (suc n) = grind (arith, number_is number (m -ℤ pos 1) n)

  -- below -1
  later_is : (m : ℤ) (k : ℕ) → m ≡ negsuc (suc k) → (ds : List ℕ) → list_text m ds ≡ digits_text s (λ _. false) ds
  unfolding digits_text
  later_is m k at [] = refl
  later_is m k at (d ∷ ds) =
      ap (λ x. list_text x (d ∷ ds)) at
      ∙ (λ i. append-nil (digit_text s d) i
      ++ later_is (negsuc (suc k) -ℤ pos 1) (suc k) (omega (arith, ints)) ds i)

  fraction_is : (m : ℤ) → m ≡ negsuc zero → (ds : List ℕ) → list_text m ds ≡ fraction_text s ds
  unfolding digits_text
  fraction_is m at ds = grind (arith, ints, append-nil, append_assoc, later_is)

  -- integer digits and fraction digits
  whole_is : (ds es : List ℕ) (m : ℤ) → m ≡ pos (length ds) -ℤ pos 1
      → list_text m (ds ++ es) ≡ digits_text s (λ k. separates g s.sizes hi (pos k)) ds ++ fraction_text s es
  unfolding digits_text
  whole_is [] es m at = fraction_is m (omega (arith, ints, at)) es
  whole_is (d ∷ ds) es m at =
      grind (arith, ints, append_assoc, digits_text-first, (whole_is ds es (pos (length ds) -ℤ pos 1) refl))

-- ---- A decimal and its digits.
-- the value of these digits, with this sign
pub record HasDigits (v : Decimal) (w : Numeral) : Type 0 where
  pub sign : v.sign ≡ w.sign
  pub absolute : v.absolute ≡ value_of w
  pub few : ¬ IsBeyondLimits w

-- two values with the same digits are equal
pub same_value : (v u : Decimal) (w : Numeral) → HasDigits v w → HasDigits u w → v ≡ u
same_value v u w a b = grind arith

module _ (w : Numeral) (digits : AreDigits w) (few : ¬ IsBeyondLimits w) where
  abbrev all : List ℕ
  all = w.whole ++ w.fraction

  abbrev top : ℤ
  top = pos (length w.whole - 1)

  digits_are : digit_list (value_of w).number top (length all) ≡ all
  unfolding number_at
  digits_are =
      let low = length w.whole + 32768 - length all in
      let number = (value_of w).number in
      let below = below_append w.whole w.fraction digits.whole digits.fraction in
      let at_most : length all ≤ length w.whole + 32768 = search (rules, arith, cases_lt, length-append) in
      digits_of_number (digit_list number top (length all)) all (digit_list-digits number top (length all)) below
      (length-digit_list number top (length all))
      (digit_list-number number low top (length all) (λ h. omega (arith, offset_is top, at_most, digits.some))
      ∙ ap (λ x. x % 10 ^ length all) (mul-div_cancel (number_from_digits 10 all) (ten_pos low))
      ∙ mod-eq_of_lt (number_lt 10 all below))

  -- they have a value
  pub is_value : IsValue (value_of w)
  unfolding number_at
  is_value = grind (arith, ints, clamps, length-append, below_append, cases_lt, offset_is, number_at-lt, mul-mod_left)

  pub absolute_is : (s : Symbols) (g : GroupingStrategy)
      → absolute_text s g (value_of w) ≡ absolute_numeral_text s (separated_by s g (length w.whole)) w
  absolute_is s g = grind (arith, ints, clamps, gap_is, length-append, number_is, digits_are, whole_is)

-- digits within the limits are those of a value
pub digits_are_value : (v : Decimal) (w : Numeral) → HasDigits v w → AreDigits w → IsValue v.absolute
digits_are_value v w has digits = grind (arith, is_value w digits has.few)

-- by each strategy the text of a value is that of its digits
pub formatted-digits : (v : Decimal) (w : Numeral) → HasDigits v w → AreDigits w → (s : Symbols) (g : GroupingStrategy)
    → formatted s g v ≡ numeral_text s (separated_by s g (length w.whole)) w
formatted-digits v w has digits s g = grind (arith, absolute_is)

-- the digits of a value
pub digits_of_value : (v : Decimal) → IsValue v.absolute → (w : Numeral) × AreDigits w × HasDigits v w
unfolding number_at
digits_of_value v valid =
    let u = v.absolute in
    let n = int_gap (pos 0) u.hi + 1 in
    let count = shown_count u in
    let low = offset u.lo in
    let ds = digit_list u.number u.hi count in
    let split : take n ds ++ drop n ds ≡ ds = take-append-drop n ds in
    let below = subst (AllBelowBase 10) (sym split) (digit_list-digits u.number u.hi count) in
    let size : length (take n ds ++ drop n ds) ≡ count = ap length split ∙ length-digit_list u.number u.hi count in
    let rest : length (drop n ds) ≡ count - n = search (rules, arith, length-digit_list, length-drop) in
    let within : n ≤ count = search (rules, arith, ints, gap_is) in
    let whole : length (take n ds) ≡ n = omega (arith, size, length-append (take n ds) (drop n ds), rest, within) in
    let top : offset u.hi + 1 ≡ count + low = search (rules, arith, ints, gap_is, offset_is) in
    let less : u.number / 10 ^ low < 10 ^ count =
    (div-lt_iff_lt-mul (ten_pos low)).1 (subst (λ x. u.number < x) (powers count low _ top) valid.below) in
    let number : u.number / 10 ^ low ≡ number_from_digits 10 (take n ds ++ drop n ds) =
    sym (ap (number_from_digits 10) split ∙ digit_list-number u.number low u.hi count (λ some. omega (arith, top))
    ∙ mod-eq_of_lt less) in
    let units : u.number ≡ u.number / 10 ^ low * 10 ^ low = search (rules, arith, div-add-mod') in
    let place : low ≡ length (take n ds) + 32768 - length (take n ds ++ drop n ds) =
    omega (arith, ints, whole, size, gap_is (pos 0) u.hi, gap_is u.lo u.hi, offset_is u.lo, valid.hi_in, valid.lo_in) in
    let hi : u.hi ≡ pos (length (take n ds) - 1) = omega (arith, ints, whole, gap_is (pos 0) u.hi, valid.hi_in) in
    let lo : u.lo ≡ int_min (pos (length (take n ds)) -ℤ pos (length (take n ds ++ drop n ds))) (pos 0) =
    omega (arith, ints, clamps, whole, size, gap_is (pos 0) u.hi, gap_is u.lo u.hi, valid.hi_in, valid.lo_in) in (
      record { sign = v.sign; whole = take n ds; fraction = drop n ds },
      record {
        some = omega (arith, whole);
        whole = below_first (take n ds) (drop n ds) below;
        fraction = below_rest (take n ds) (drop n ds) below;
      },
      record {
        sign = refl;
        absolute = λ i. record { number = (units ∙ (λ j. number j * 10 ^ place j)) i; hi = hi i; lo = lo i };
        few = search (rules, arith, ints, gap_is);
      },
    )
