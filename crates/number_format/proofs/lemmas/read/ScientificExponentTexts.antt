-- The exponent that a formatter writes is read back.
use Rattle.std.proofs.{Common.{◌≡◌, ◌≢◌, ℕ, suc, ◌+◌, ◌-◌, ◌*◌, ◌/◌, ◌^◌, ◌<◌, ◌≤◌, true, false, inl, inr, List, [], ◌∷◌, ◌++◌, length, get_or, refl, sym, ◌∙◌, ap, subst, arith, append-nil, length-append}, Math.Nat.{mul-lt-mul_of_pos_right, mul-mod_left, mul-div_cancel, pow-le-pow_right}, lemmas.{Bool.cases_lt, Int.{ints, clamps, Digits.number_lt}, List.nil_from_length}}
use Rattle.std.specs.{Prelude.{min, max, if◌then◌else◌, ℤ, pos, negsuc, ◌-ℤ◌, int_lt, unsigned_abs}, Int.{int_max, int_min, Digits.{AllBelowBase, number_from_digits}}}
use Rattle.decimal_digits.specs.{Digits.number_at, Number.{weight, offset, first}}
use Rattle.decimal_unsigned.specs.{Unsigned.{Unsigned, IsValue, integer_value}, Edits.padded_start}
use Rattle.fixed_decimal.specs.{Decimal.Decimal, declared.variations.Sign.{Sign, TheVariants.{None}}}
use Rattle.fixed_decimal.proofs.Calling.{extent, first_of_integer, first_zero, offset_is, ten_pos, powers, number_first}
use Rattle.decimal_format.specs.{declared.grouping.GroupingStrategy.TheVariants.Never, Symbols.{Symbols, sign_affixes}, Formatted.absolute_text, Reading.{digits_text, fraction_text, separated_by}}
use Rattle.decimal_format.proofs.lemmas.reader.{DigitTexts.digits_text-cong, NumeralTexts.{digits_of_value, absolute_is}}
use Rattle.number_format.specs.{declared.options.{ExponentOptions.ExponentOptions, ExponentSign.ExponentSign}, NumberText.{exponent_sign, shown_exponent}, ScientificReading.{least_digits, exponent_number, IsExponent}}

-- ---- The first digit of an integer.

pub record TopDigit (n : ℕ) : Type 0 where
  pub top : ℕ
  pub few : top < 10
  pub below : n < 10 ^ (top + 1)
  pub reaches : 0 < top → 10 ^ top ≤ n
  pub is : first (n * weight (pos 0)) ≡ pos top

top_digit : (n : ℕ) → n < 2 ^ 32 → TopDigit n
top_digit n small = elim (cases_lt 0 n) [
  | inl some ↦
      let x = extent 10 n some (omega arith) (omega arith) in
      let few : x.top < 10 =
      elim (cases_lt x.top 10) [
        | inl h ↦ h
        | inr h ↦
            let most : 10 ^ 10 ≤ 10 ^ x.top = pow-le-pow_right (omega arith) h in
            absurd (omega (arith, most, x.reaches))
      ] in record {
        top = x.top;
        few = few;
        below = x.below;
        reaches = λ _. x.reaches;
        is = first_of_integer n x.top x.reaches x.below (omega (arith, few));
      }
  | inr none ↦
      let no : n ≡ 0 = omega arith in
      let zero : n * weight (pos 0) ≡ 0 = rw no (omega arith) in record {
        top = 0;
        few = omega arith;
        below = omega arith;
        reaches = λ h. absurd (omega (arith, h));
        is = ap first zero ∙ first_zero;
      }
]

-- ---- An integer with leading zeros.

abbrev integer_with : ℕ → ℕ → Unsigned
integer_with n hi = record { number = n * weight (pos 0); hi = pos hi; lo = pos 0 }

padded_is : (n p : ℕ) (t : TopDigit n) → padded_start (integer_value n) (pos p) ≡ integer_with n (max (p - 1) t.top)
padded_is n p t = elim (cases_lt 0 p) [
  | inl some ↦
      let e : int_lt (pos 0) (pos p) ≡ true = grind (arith, ints) in
      let hi : int_max (pos p -ℤ pos 1) (pos t.top) ≡ pos (max (p - 1) t.top) = omega (arith, ints, clamps) in
      ap (λ b. if b then record (integer_value n) { hi = int_max (pos p -ℤ pos 1) (first (n * weight (pos 0))) }
      else integer_value n) e
      ∙ (λ i. record {
        number = n * weight (pos 0);
        hi = (ap (int_max (pos p -ℤ pos 1)) t.is ∙ hi) i;
        lo = pos 0;
      })
  | inr none ↦
      let e : int_lt (pos 0) (pos p) ≡ false = grind (arith, ints) in
      let hi : pos t.top ≡ pos (max (p - 1) t.top) = omega (arith, ints) in
      ap (λ b. if b then record (integer_value n) { hi = int_max (pos p -ℤ pos 1) (first (n * weight (pos 0))) }
      else integer_value n) e
      ∙ (λ i. record { number = n * weight (pos 0); hi = (t.is ∙ hi) i; lo = pos 0 })
]

integer_valid : (n hi : ℕ) → n < 10 ^ (hi + 1) → hi < 32768 → IsValue (integer_with n hi)
integer_valid n hi below few =
    let product : n * weight (pos 0) < 10 ^ (hi + 1) * weight (pos 0) =
    mul-lt-mul_of_pos_right below (ten_pos (offset (pos 0))) in
    let split : 10 ^ (offset (pos hi) + 1) ≡ 10 ^ (hi + 1) * weight (pos 0) =
    powers (hi + 1) (offset (pos 0)) (offset (pos hi) + 1)
    (omega (arith, ints, offset_is (pos hi), offset_is (pos 0))) in record {
      hi_in = (omega (arith, ints), omega (arith, ints, few));
      lo_in = (omega (arith, ints), omega (arith, ints));
      below = omega (arith, split, product);
      whole = mul-mod_left n (weight (pos 0));
    }

-- the first of digits that write a great number is not 0
leading : (ds : List ℕ) (top : ℕ) → AllBelowBase 10 ds → length ds ≡ top + 1 → 10 ^ top ≤ number_from_digits 10 ds
    → get_or ds 0 0 ≢ 0
leading [] top all size least h = absurd (omega (arith, size))
leading (d ∷ ds) top all size least h =
    let same : length ds ≡ top = omega (arith, size) in
    let less : number_from_digits 10 ds < 10 ^ top =
    subst (λ k. number_from_digits 10 ds < 10 ^ k) same (number_lt 10 ds all.1) in
    let none : d * 10 ^ length ds ≡ 0 = ap (λ x. x * 10 ^ length ds) h ∙ (omega arith) in
    absurd (omega (arith, number_first 10 d ds, none, less, least))

-- digits whose value is an integer with leading zeros
pub record IntegerDigits (s : Symbols) (n hi : ℕ) : Type 0 where
  pub digits : List ℕ
  pub all : AllBelowBase 10 digits
  pub count : length digits ≡ hi + 1
  pub number : number_from_digits 10 digits ≡ n
  pub text : absolute_text s Never (integer_with n hi) ≡ digits_text s (λ _. false) digits

integer_digits : (s : Symbols) (n hi : ℕ) → n < 10 ^ (hi + 1) → hi < 32768 → IntegerDigits s n hi
unfolding number_at
integer_digits s n hi below few =
    let v : Decimal = record { sign = None; absolute = integer_with n hi } in
    let d = digits_of_value v (integer_valid n hi below few) in
    let w = d.0 in
    let top : pos hi ≡ pos (length w.whole - 1) = ap (λ (x : Unsigned). x.hi) d.2.absolute in
    let low : pos 0 ≡ int_min (pos (length w.whole) -ℤ pos (length (w.whole ++ w.fraction))) (pos 0) =
    ap (λ (x : Unsigned). x.lo) d.2.absolute in
    let none : w.fraction ≡ [] =
    nil_from_length w.fraction (omega (arith, ints, clamps, low, length-append w.whole w.fraction)) in
    let all : w.whole ++ w.fraction ≡ w.whole = ap (λ l. w.whole ++ l) none ∙ append-nil w.whole in
    let place : length w.whole + 32768 - length w.whole ≡ offset (pos 0) = omega (arith, ints, offset_is (pos 0)) in
    let number : n * weight (pos 0) ≡ number_from_digits 10 w.whole * weight (pos 0) =
    ap (λ (x : Unsigned). x.number) d.2.absolute ∙ ap (number_at (length w.whole + 32768)) all
    ∙ ap (λ k. number_from_digits 10 w.whole * 10 ^ k) place in record {
      digits = w.whole;
      all = d.1.whole;
      count = omega (arith, ints, top, d.1.some);
      number =
          sym (mul-div_cancel (number_from_digits 10 w.whole) (ten_pos (offset (pos 0))))
          ∙ ap (λ x. x / weight (pos 0)) (sym number) ∙ mul-div_cancel n (ten_pos (offset (pos 0)));
      text =
          ap (absolute_text s Never) d.2.absolute ∙ absolute_is w d.1 d.2.few s Never
          ∙ ap (λ l. l ++ fraction_text s w.fraction)
          (digits_text-cong s (separated_by s Never (length w.whole)) (λ _. false) w.whole
          (λ m inside. refl))
          ∙ ap (λ l. digits_text s (λ _. false) w.whole ++ fraction_text s l) none
          ∙ append-nil (digits_text s (λ _. false) w.whole);
    }

-- ---- The exponent.

number_is : (z : ExponentSign) → z ≢ ExponentSign.Never → (e : ℤ) (ds : List ℕ)
    → number_from_digits 10 ds ≡ unsigned_abs e → exponent_number (exponent_sign z e) ds ≡ e
number_is ExponentSign.Never h e ds is = absurd (h refl)
number_is ExponentSign.Auto h (pos n) ds is =
    let t : int_lt (pos n) (pos 0) ≡ false = grind (arith, ints) in
    ap (λ b. exponent_number (if b then Sign.Negative else Sign.None) ds) t ∙ ap pos is
number_is ExponentSign.Always h (pos n) ds is =
    let t : int_lt (pos n) (pos 0) ≡ false = grind (arith, ints) in
    ap (λ b. exponent_number (if b then Sign.Negative else Sign.Positive) ds) t ∙ ap pos is
number_is ExponentSign.Auto h (negsuc n) ds is =
    let t : int_lt (negsuc n) (pos 0) ≡ true = grind (arith, ints) in
    let z : pos 0 -ℤ pos (suc n) ≡ negsuc n = omega (arith, ints) in
    ap (λ b. exponent_number (if b then Sign.Negative else Sign.None) ds) t ∙ ap (λ k. pos 0 -ℤ pos k) is ∙ z
number_is ExponentSign.Always h (negsuc n) ds is =
    let t : int_lt (negsuc n) (pos 0) ≡ true = grind (arith, ints) in
    let z : pos 0 -ℤ pos (suc n) ≡ negsuc n = omega (arith, ints) in
    ap (λ b. exponent_number (if b then Sign.Negative else Sign.Positive) ds) t ∙ ap (λ k. pos 0 -ℤ pos k) is ∙ z

-- the digits of an exponent that is shown
pub record ShownExponent (s : Symbols) (o : ExponentOptions) (e : ℤ) : Type 0 where
  pub digits : List ℕ
  pub is : IsExponent s o ((sign_affixes s (exponent_sign o.sign e)).prefix
      ++ absolute_text s Never (shown_exponent o e).absolute) (exponent_sign o.sign e) digits
  pub number : exponent_number (exponent_sign o.sign e) digits ≡ e

pub exponent_shown : (s : Symbols) (o : ExponentOptions) (e : ℤ) → o.sign ≢ ExponentSign.Never
    → unsigned_abs e < 2 ^ 32 → ShownExponent s o e
exponent_shown s o e shows small =
    let n = unsigned_abs e in
    let p = min o.digits 32767 in
    let t = top_digit n small in
    let hi = max (p - 1) t.top in
    let more : 10 ^ (t.top + 1) ≤ 10 ^ (hi + 1) = pow-le-pow_right (omega arith) (omega arith) in
    let low = t.few in
    let x = integer_digits s n hi (omega (arith, more, t.below)) (omega (arith, low)) in
    let same = number_is o.sign shows e x.digits x.number in record {
      digits = x.digits;
      is = record {
        digits = x.all;
        least = elim (cases_lt (least_digits o) (t.top + 1)) [
          | inr few ↦ inl (omega (arith, x.count, few))
          | inl many ↦
              let count : length x.digits ≡ t.top + 1 = omega (arith, x.count, many) in
              inr (
                omega (arith, count, many),
                leading x.digits t.top x.all count
                    (subst (λ m. 10 ^ t.top ≤ m) (sym x.number) (t.reaches (omega (arith, many)))),
              )
        ];
        sign_is = ap (exponent_sign o.sign) (sym same);
        text = ap (λ l. (sign_affixes s (exponent_sign o.sign e)).prefix ++ l)
            (ap (absolute_text s Never) (padded_is n p t) ∙ x.text);
      };
      number = same;
    }
