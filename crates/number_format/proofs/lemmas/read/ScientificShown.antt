-- What a formatter writes with an exponent is read back.
use Rattle.std.proofs.{Common.{◌≡◌, ℕ, ◌+◌, ◌-◌, ◌*◌, ◌/◌, ◌%◌, ◌^◌, ◌<◌, ◌≤◌, Bool, true, false, inl, inr, ◌++◌, length, refl, sym, ◌∙◌, ap, subst, arith, append-nil, length-append, mod-lt}, Math.Nat.{mul-lt-mul_of_pos_right, mul-le-mul_left, mul-le-mul_right, mul_assoc, add-mul, div-lt_iff_lt-mul, pow-le-pow_right}, lemmas.{Bool.cases_lt, Int.{ints, Digits.number_lt}, Nat.div-mul-add}}
use Rattle.std.specs.{Prelude.{◌⊎◌, if◌then◌else◌, Result, Ok, Err, ℤ, pos, negsuc, ◌+ℤ◌, ◌-ℤ◌, unsigned_abs}, Int.{int_rem_euclid, Digits.{number_from_digits}}}
use Rattle.decimal_digits.specs.{Digits.number_at, Number.{weight, offset, first}}
use Rattle.decimal_unsigned.specs.{Unsigned.{Unsigned, IsValue}, declared.error.ParseError.{ParseError, TheVariants.Memory}}
use Rattle.fixed_decimal.specs.{Decimal.Decimal, declared.variations.Sign.{TheVariants.None}}
use Rattle.fixed_decimal.proofs.Calling.{Extent, extent, first_of, offset_is, ten_pos, powers, number-append}
use Rattle.decimal_format.specs.{declared.grouping.GroupingStrategy.GroupingStrategy, Symbols.Symbols, Formatted.{absolute_text}, Reading.{Numeral, AreDigits}, Scanning.value_of}
use Rattle.decimal_format.proofs.lemmas.reader.NumeralTexts.{HasDigits, digits_of_value, formatted-digits}
use Rattle.number_format.specs.{declared.{notation.Notation.{TheVariants.{Scientific, Engineering}}, read.scientific.ExponentForm.ExponentForm}, AffixedTexts.shifted, NumberText.exponent_sign, Scaled.exponent_at, ScientificReading.{step_of, IsInNotation, CanReadExponent, ScientificNumeral, exponent_of, IsScientificNumeral, IsReadScientific, scientific_text, scientific_value, notation_of, HasExponentOf}}
use Rattle.number_format.proofs.lemmas.read.{ScientificExponentTexts.exponent_shown, ScientificValues.digits_value}

-- ---- The integer part.

-- a number of integer digits and of fraction digits is its integer part and less than 1
module _ (v : Unsigned) (w : Numeral) (digits : AreDigits w) (has : v ≡ value_of w)
    (few : length w.fraction ≤ 32768) where
  abbrev whole : ℕ
  whole = number_from_digits 10 w.whole

  abbrev fraction : ℕ
  fraction = number_from_digits 10 w.fraction

  abbrev unit : ℕ
  unit = weight (pos 0)

  abbrev rest : ℕ
  rest = 32768 - length w.fraction

  parts : v.number ≡ whole * unit + fraction * 10 ^ rest
  unfolding number_at
  parts =
      let place : length w.whole + 32768 - length (w.whole ++ w.fraction) ≡ rest =
      omega (arith, length-append w.whole w.fraction) in
      let one : unit ≡ 10 ^ length w.fraction * 10 ^ rest =
      powers (length w.fraction) rest (offset (pos 0)) (omega (arith, ints, offset_is (pos 0), few)) in
      ap (λ (x : Unsigned). x.number) has
      ∙ (λ i. number-append w.whole w.fraction i * 10 ^ place i)
      ∙ add-mul (whole * 10 ^ length w.fraction) fraction (10 ^ rest)
      ∙ ap (λ x. x + fraction * 10 ^ rest)
      (mul_assoc whole (10 ^ length w.fraction) (10 ^ rest) ∙ ap (λ x. whole * x) (sym one))

  below_one : fraction * 10 ^ rest < unit
  below_one =
      let one : unit ≡ 10 ^ length w.fraction * 10 ^ rest =
      powers (length w.fraction) rest (offset (pos 0)) (omega (arith, ints, offset_is (pos 0), few)) in
      let less : fraction * 10 ^ rest < 10 ^ length w.fraction * 10 ^ rest =
      mul-lt-mul_of_pos_right (number_lt 10 w.fraction digits.fraction) (ten_pos rest) in
      omega (arith, one, less)

  whole_is : v.number / unit ≡ whole
  whole_is = ap (λ n. n / unit) parts ∙ div-mul-add whole unit (fraction * 10 ^ rest) below_one

  -- 0 has only zeros
  zero_parts : v.number ≡ 0 → (whole ≡ 0) × (fraction ≡ 0)
  zero_parts none =
      let both : whole * unit + fraction * 10 ^ rest ≡ 0 = sym parts ∙ none in
      let some : whole * 1 ≤ whole * unit = mul-le-mul_left whole (ten_pos (offset (pos 0))) in
      let more : fraction * 1 ≤ fraction * 10 ^ rest = mul-le-mul_left fraction (ten_pos rest) in
      (omega (arith, both, some), omega (arith, both, more))

  -- a number whose first digit is at j has an integer part of j + 1 digits
  whole_between : (j : ℕ) → Extent v.number → first v.number ≡ pos j → (0 < whole) × (whole < 10 ^ (j + 1))
  whole_between j x is =
      let top : x.top ≡ j + offset (pos 0) = omega (arith, ints, offset_is (pos 0), first_of x, is) in
      let low : 10 ^ x.top ≡ 10 ^ j * unit = powers j (offset (pos 0)) x.top (omega (arith, top)) in
      let high : 10 ^ (x.top + 1) ≡ 10 ^ (j + 1) * unit =
      powers (j + 1) (offset (pos 0)) (x.top + 1) (omega (arith, top)) in
      let least : 1 * unit ≤ 10 ^ j * unit = mul-le-mul_right unit (ten_pos j) in
      let below : v.number / unit < 10 ^ (j + 1) =
      (div-lt_iff_lt-mul (ten_pos (offset (pos 0)))).1 (omega (arith, high, x.below)) in
      let some : 0 < whole = elim (cases_lt 0 whole) [
        | inl h ↦ h
        | inr h ↦
            let no : whole ≡ 0 = omega (arith, h) in
            let none : whole * unit ≡ 0 = ap (λ x. x * unit) no ∙ (omega arith) in
            absurd (omega (arith, parts, below_one, none, low, least, x.reaches))
      ] in
      (some, subst (λ n. n < 10 ^ (j + 1)) whole_is below)

-- ---- The exponent.

remainder : (m : ℤ) → (k : ℕ) × (k < 3) × (int_rem_euclid m (pos 3) ≡ pos k)
remainder (pos a) = (a % 3, mod-lt a (omega arith), refl)
remainder (negsuc a) = (3 - 1 - a % 3, omega arith, refl)

multiple : (m : ℤ) → unsigned_abs (m -ℤ int_rem_euclid m (pos 3)) % 3 ≡ 0
multiple (pos a) =
    let low : a % 3 ≤ a = omega arith in
    let e : pos a -ℤ pos (a % 3) ≡ pos (a - a % 3) = omega (arith, ints) in
    ap (λ z. unsigned_abs z % 3) e ∙ (omega arith)
multiple (negsuc a) =
    let e : negsuc a -ℤ pos (3 - 1 - a % 3) ≡ negsuc (a + 2 - a % 3) = omega (arith, ints) in
    ap (λ z. unsigned_abs z % 3) e ∙ (omega arith)

-- the first digit is below the step, of which the exponent is a multiple
first_below : (engineering : Bool) (m e : ℤ)
    → e ≡ exponent_at (if engineering then Engineering else Scientific) (m +ℤ e)
    → (j : ℕ) × (m ≡ pos j) × (j < (if engineering then 3 else 1))
    × (unsigned_abs e % (if engineering then 3 else 1) ≡ 0)
first_below false m e is = (0, omega (arith, ints, is), omega arith, omega arith)
first_below true m e is =
    let r = remainder (m +ℤ e) in
    let same : e ≡ (m +ℤ e) -ℤ pos r.0 = is ∙ ap (λ z. (m +ℤ e) -ℤ z) r.2 in
    (r.0, omega (arith, ints, same), r.1, ap (λ z. unsigned_abs z % 3) is ∙ multiple (m +ℤ e))

-- ---- The text.

module _ (s : Symbols) (f : ExponentForm) (g : GroupingStrategy) (v : Unsigned) (valid : IsValue v) (e : ℤ)
    (can : CanReadExponent s f) (small : unsigned_abs e < 2 ^ 32) (is : HasExponentOf (notation_of f) v.number e) where
  abbrev pub number : (w : Numeral) × AreDigits w × HasDigits (record { sign = None; absolute = v }) w
  number = digits_of_value (record { sign = None; absolute = v }) valid

  abbrev pub numeral : ScientificNumeral
  numeral = record {
    significand = number.0;
    sign = exponent_sign f.options.sign e;
    exponent = (exponent_shown s f.options e can.signs small).digits;
  }

  few : length number.0.fraction ≤ 32768
  few = elim (cases_lt 32768 (length number.0.fraction)) [
    | inl h ↦ absurd (number.2.few (inr h))
    | inr h ↦ h
  ]

  in_notation : IsInNotation (step_of f) (number_from_digits 10 number.0.whole)
      (number_from_digits 10 number.0.fraction) e
  in_notation = elim is [
    | inl some ↦
        let j = first_below f.is_engineering (first v.number) e some.1 in
        let x = extent (offset v.hi + 1) v.number some.0 valid.below
        (omega (arith, ints, offset_is v.hi, valid.hi_in)) in
        let between = whole_between v number.0 number.1 number.2.absolute few j.0 x j.1 in
        let most : 10 ^ (j.0 + 1) ≤ 10 ^ step_of f = pow-le-pow_right (omega arith) (omega (arith, j.2)) in
        inl (between.0, omega (arith, between.1, most), j.3)
    | inr none ↦
        let zeros = zero_parts v number.0 number.1 number.2.absolute few none.0 in inr (zeros.0, zeros.1, none.1)
  ]

  pub shown_numeral : IsScientificNumeral s f (scientific_text s f g v e) numeral
  shown_numeral =
      let shown = exponent_shown s f.options e can.signs small in record {
        front = absolute_text s g v;
        back = _;
        text = refl;
        significand = record {
          digits = number.1;
          strategy = g;
          text = sym (append-nil (absolute_text s g v)) ∙ formatted-digits _ number.0 number.2 number.1 s g;
        };
        unsigned = sym number.2.sign;
        exponent = shown.is;
        notation = subst (IsInNotation (step_of f) (number_from_digits 10 number.0.whole)
            (number_from_digits 10 number.0.fraction)) (sym shown.number) in_notation;
      }

  pub exponent_is : exponent_of numeral ≡ e
  exponent_is = (exponent_shown s f.options e can.signs small).number

  pub numeral_is : scientific_value numeral ≡ shifted e (Ok (record { sign = None; absolute = v }))
  numeral_is = λ i. shifted (exponent_is i) (digits_value _ number.0 number.2 i)

  -- the text that is written reads as the number that is shown
  pub shown_reads : (inline : ℕ) (result : Result Decimal ParseError)
      → IsReadScientific inline s f (scientific_text s f g v e) result
      → (result ≡ shifted e (Ok (record { sign = None; absolute = v }))) ⊎ (result ≡ Err Memory)
  shown_reads inline result read = elim (read.value numeral shown_numeral) [
    | inl x ↦ inl (x ∙ numeral_is)
    | inr x ↦ inr x.0
  ]
