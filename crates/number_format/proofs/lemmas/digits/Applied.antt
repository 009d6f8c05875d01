-- A decimal that is rounded at the position of a precision, with the digits that are shown then, is the one that the
-- options make.
use Rattle.std.proofs.{Common.{◌≡◌, ℕ, ◌*◌, ◌/◌, ◌%◌, ◌^◌, ◌<◌, ◌≤◌, false, refl, sym, ◌∙◌, ap, subst, arith}, Math.Nat.{mod-lt, mod-eq_of_lt, div-add-mod', mul-mod_left}, lemmas.{Int.{ints, clamps}, Bool.or_from}}
use Rattle.std.specs.{Prelude.{Some, max, ℤ, pos, negsuc, ◌+ℤ◌, ◌-ℤ◌, ◌≤ℤ◌, int_lt}, Int.{int_max, int_min}}
use Rattle.decimal_digits.specs.{Number.{number_limit, offset, weight, first, size, highest_magnitude}, Rounding.{step_of, unit_at, rounded_number}, declared.rounding.{RoundError.{RoundError, TheVariants.{Limit, Memory}}, RoundingIncrement.RoundingIncrement, UnsignedRoundingMode.UnsignedRoundingMode}}
use Rattle.decimal_unsigned.specs.{Unsigned.{Unsigned, IsValue}, Edits.{padded_start, padded_end}, Rounded.{rounding, reaches_limit}}
use Rattle.fixed_decimal.specs.{Decimal.{Decimal, signed_number}, SignedRounding.{NamedSigned, mode_at, IsRounded, RoundingFails}}
use Rattle.fixed_decimal.proofs.Calling.{signed_rounded_to-some, below_limit, offset_is, size_right, ten_pos}
use Rattle.number_format.specs.{declared.digits.{options.{DigitOptions.DigitOptions, TrailingZeros.TrailingZeros}, precision.Precision.Precision}, ShownDigits.{rounded_with, padded, stripped, shown, base_of, position_of, position_at, last_shown_of, ApplyFails, IsRoundedAt, RoundingFailsAt}}
use Rattle.number_format.proofs.lemmas.digits.Roundings.{IsChosen, chosen}

-- at a position below the lowest magnitude the unit is that of the lowest one
unit_clamped : (increment : RoundingIncrement) (p : ℤ)
    → unit_at increment (int_max p (negsuc 32767)) ≡ unit_at increment p
unit_clamped increment p =
    ap (λ k. step_of increment * 10 ^ k)
    (omega (arith, ints, clamps, offset_is p, offset_is (int_max p (negsuc 32767))))

within : (z : ℤ) → z ≤ℤ pos 32767 → int_lt highest_magnitude z ≡ false
within z h = grind (arith, ints)

-- ---- The rounding.
module _ (o : DigitOptions) (exponent : ℕ) (old : Decimal) (before position : ℤ) (increment : RoundingIncrement)
    (starts : before ≡ first old.absolute.number)
    (there : (position ≡ int_max (pos exponent +ℤ position_of o.precision (before -ℤ pos exponent)) (negsuc 32767))
    × ((pos exponent +ℤ position_of o.precision (before -ℤ pos exponent)) ≤ℤ pos 32767))
    (base : increment ≡ base_of o.precision) (valid : IsValue old.absolute) where
  abbrev n : ℕ
  n = old.absolute.number

  abbrev mode : UnsignedRoundingMode
  mode = mode_at o.mode old.sign

  few : n < number_limit
  few = below_limit old.absolute position valid

  is : IsChosen o.precision mode exponent n
  is = chosen o.precision mode exponent n few

  pub unit_is : (rounded_with o exponent old).unit ≡ unit_at increment position
  unit_is =
      is.unit
      ∙ sym ((λ i. unit_at (base i) (there.0 i)) ∙ unit_clamped (base_of o.precision) _
      ∙ ap (λ z. unit_at (base_of o.precision) (pos exponent +ℤ position_of o.precision (z -ℤ pos exponent))) starts)

  number_is : (rounded_with o exponent old).number ≡ rounded_number mode (unit_at increment position) n
  number_is = is.number ∙ ap (λ u. rounded_number mode u n) unit_is

  below : int_lt highest_magnitude (position_at o.precision exponent n) ≡ false
  below =
      within (position_at o.precision exponent n)
      (subst (λ z. (pos exponent +ℤ position_of o.precision (z -ℤ pos exponent)) ≤ℤ pos 32767) starts there.1)

  -- the rounded decimal
  pub rounded_there : (new : Decimal) (after zeros : ℤ) → IsRounded old (rounding position o.mode increment) (Some new)
      → after ≡ first new.absolute.number
      → zeros ≡ last_shown_of o.precision (before -ℤ pos exponent) (after -ℤ pos exponent)
      → IsRoundedAt o exponent old new zeros
  rounded_there new after zeros rounds ends end =
      let new_is = signed_rounded_to-some old new position _ rounds.value in
      let number = number_is ∙ ap (λ (v : Decimal). v.absolute.number) new_is in
      let named = rounds.named in
      let multiple =
      ap (λ (v : Decimal). v.absolute.number) (signed_rounded_to-some old new position named.0 named.2) ∙ sym number in
      let fits : reaches_limit (rounded_with o exponent old).number ≡ false =
      let t = rounds.value in let u = number_is in grind arith in
      record {
        within = rw (or_from _ _ below fits) refl;
        fits = fits;
        number = sym number;
        sign = sym (ap (λ (v : Decimal). v.sign) new_is);
        shown =
            end
            ∙ (λ i. last_shown_of o.precision (starts i -ℤ pos exponent)
            ((ends ∙ ap first (sym number)) i -ℤ pos exponent))
            ∙ sym is.last_shown;
        named =
            subst (λ m. NamedSigned o.mode (rounded_with o exponent old).unit (signed_number old) m) multiple
            (subst (λ u. NamedSigned o.mode u (signed_number old) named.0) (sym unit_is) named.1);
      }

  -- the error of the rounding
  pub rounding_fails : (held : ℕ) (e : RoundError) → before ≤ℤ pos 32767
      → RoundingFails held e old (rounding position o.mode increment) → RoundingFailsAt held e o exponent old
  rounding_fails held Limit low fails = (
    subst (λ z. z ≤ℤ pos 32767) starts low,
    let t = fails.value in let u = number_is in grind arith,
  )
  rounding_fails held Memory low fails = let u = number_is in grind (arith, fails)

-- ---- The digits that are shown.
-- the digits of a number below 10 to a power are no more than those of the number
pub size_of_remainder : (n k : ℕ) → n < number_limit → size (n % 10 ^ k) ≤ size n
size_of_remainder n k few =
    let whole = div-add-mod' n (10 ^ k) in
    subst (λ m. size (n % 10 ^ k) ≤ size m) whole
    (size_right (n / 10 ^ k * 10 ^ k) (n % 10 ^ k) k (offset (pos 32768)) (mul-mod_left (n / 10 ^ k) (10 ^ k))
    (mod-lt n (ten_pos k)) (omega (arith, whole, few)) (omega (arith, ints, offset_is (pos 32768))))

-- the value with the given least number of integer digits, and zeros down to a magnitude or to 0
pub padded_is : (o : DigitOptions) (cut : Unsigned) (rounded : ℕ) (end : ℤ)
    → cut.number ≡ rounded % weight (pos o.integer.max)
    → padded_end (padded_start cut (pos (max o.integer.min 1))) (int_min (int_max end (negsuc 32767)) (pos 0))
    ≡ padded o rounded end
padded_is o cut rounded end number = grind (arith, ints, clamps)

pub stripped_number : (zeros : TrailingZeros) (v : Unsigned) → (stripped zeros v).number ≡ v.number
stripped_number zeros v = grind arith

-- and all of the number is shown, if no integer digit is cut off
pub shown_number : (o : DigitOptions) (r : ℕ) (end : ℤ) → o.integer.max ≡ 32768 → r < number_limit
    → (shown o r end).number ≡ r
shown_number o r end all few =
    stripped_number o.trailing_zeros (padded o r end) ∙ ap (λ m. r % weight (pos m)) all ∙ mod-eq_of_lt few

-- ---- The errors of the whole call.
-- the position of a rounding without an exponent is within the limits
position_within : (p : Precision) (n : ℕ) → first n ≤ℤ pos 32767 → position_at p 0 n ≤ℤ pos 32767
position_within p n h = grind (arith, ints, clamps)

pub apply_fails : (held : ℕ) (e : RoundError) (o : DigitOptions) (v : Decimal) → RoundingFailsAt held e o 0 v
    → ApplyFails held e o v
apply_fails held Limit o v (low, none) =
    let below = within _ (position_within o.precision v.absolute.number low) in
    grind arith
apply_fails held Memory o v fails = fails
