-- Laws of digit options.
use Rattle.std.proofs.{Common.{◌≡◌, ℕ, ◌*◌, ◌/◌, ◌<◌, ◌≤◌, ◌%◌, false, refl, sym, ◌∙◌, ap, subst, arith}, Math.Nat.div-add-mod', lemmas.{Int.ints, Bool.Decides.nat_tests}}
use Rattle.std.specs.Prelude.{Some, ℤ, pos, ◌+ℤ◌}
use Rattle.decimal_digits.specs.{Number.{number_limit, offset, weight}, Rounding.{step_of, rounded_number}, declared.rounding.{RoundingIncrement.RoundingIncrement, UnsignedRoundingMode.UnsignedRoundingMode}}
use Rattle.decimal_unsigned.specs.Rounded.{reaches_limit}
use Rattle.fixed_decimal.specs.{Decimal.Decimal, SignedRounding.mode_at}
use Rattle.fixed_decimal.proofs.Calling.{ten_pos, rounded_number-multiple, rounded_number-monotone, rounded_number-idempotent}
use Rattle.number_format.specs.{declared.digits.{options.DigitOptions.DigitOptions, ranges.FractionDigits.FractionDigits, precision.Precision.{Precision, TheVariants.{Fraction, Multiples, Significant, MorePrecision, LessPrecision}}}, ShownDigits.{fraction_end, Rounded, to_fixed, rounded_by, rounded_with, shown, applied, IsFractional, KeepsDigits}}
use Rattle.number_format.proofs.lemmas.digits.Applied.{shown_number}

-- ---- A rounding to fraction digits is one to multiples of a unit.
step_some : (increment : RoundingIncrement) → 0 < step_of increment
step_some increment = grind arith

product_some : (a b : ℕ) → 0 < a → 0 < b → 0 < a * b
product_some a b p q = grind arith

record IsByUnit (p : Precision) (mode : UnsignedRoundingMode) : Type 0 where
  unit : ℕ
  some : 0 < unit
  end : ℤ
  number : (n : ℕ) → (rounded_by p mode 0 n).number ≡ rounded_number mode unit n
  shown : (n : ℕ) → (rounded_by p mode 0 n).last_shown ≡ end

by_unit : (p : Precision) (mode : UnsignedRoundingMode) → IsFractional p → IsByUnit p mode
unfolding rounded_by to_fixed
by_unit (Fraction f) mode is = record {
  unit = _;
  some = omega (arith, ten_pos (offset (pos 0 +ℤ fraction_end f.max)));
  end = _;
  number = λ n. refl;
  shown = λ n. refl;
}
by_unit (Multiples m) mode is = record {
  unit = _;
  some =
      product_some _ _ (product_some _ _ (step_some m.increment.base) (ten_pos m.increment.zeros))
      (ten_pos (offset (pos 0 +ℤ fraction_end m.digits)));
  end = _;
  number = λ n. refl;
  shown = λ n. refl;
}
by_unit (Significant s) mode is = absurd is
by_unit (MorePrecision b) mode is = absurd is
by_unit (LessPrecision b) mode is = absurd is

-- ---- Digits that are kept.
module _ (o : DigitOptions) (f : FractionDigits) (v : Decimal) where
  keeps_number : o.precision ≡ Fraction f → v.absolute.number % weight (fraction_end f.max) ≡ 0
      → (rounded_with o 0 v).number ≡ v.absolute.number
  unfolding rounded_by to_fixed
  keeps_number is divides =
      let mode = mode_at o.mode v.sign in
      let n = v.absolute.number in
      let unit = weight (fraction_end f.max) in
      let same : pos 0 +ℤ fraction_end f.max ≡ fraction_end f.max = omega (arith, ints) in
      let one : 1 * weight (pos 0 +ℤ fraction_end f.max) ≡ unit = omega (arith, ap weight same) in
      let multiple : n / unit * unit ≡ n = omega (arith, divides, div-add-mod' n unit) in
      ap (λ p. (rounded_by p mode 0 n).number) is ∙ ap (λ u. rounded_number mode u n) one
      ∙ subst (λ m. rounded_number mode unit m ≡ m) multiple
      (rounded_number-multiple mode unit (n / unit) (ten_pos (offset (fraction_end f.max))))

  last_shown_is : o.precision ≡ Fraction f → (rounded_with o 0 v).last_shown ≡ fraction_end f.min
  unfolding rounded_by to_fixed
  last_shown_is is = ap (λ p. (rounded_by p (mode_at o.mode v.sign) 0 v.absolute.number).last_shown) is

  pub keeps_digits : KeepsDigits o f v
  keeps_digits is divides =
      (keeps_number is divides, λ few range. grind (arith, nat_tests, keeps_number, last_shown_is))

-- ---- Order, and a second rounding.
pub is_monotone : (o : DigitOptions) (v w : Decimal) → IsFractional o.precision → v.sign ≡ w.sign
    → v.absolute.number ≤ w.absolute.number → (rounded_with o 0 v).number ≤ (rounded_with o 0 w).number
is_monotone o v w is sign h =
    let u = by_unit o.precision (mode_at o.mode v.sign) is in
    rw (sym sign, u.number v.absolute.number, u.number w.absolute.number)
    (rounded_number-monotone (mode_at o.mode v.sign) u.unit v.absolute.number w.absolute.number u.some h)

module _ (o : DigitOptions) (v : Decimal) (is : IsFractional o.precision) (all : o.integer.max ≡ 32768) where
  abbrev made : Rounded
  made = rounded_with o 0 v

  abbrev whole : Decimal
  whole = record v { absolute = shown o made.number made.last_shown }

  once : reaches_limit made.number ≡ false → applied o whole ≡ Some whole
  once fits =
      let mode = mode_at o.mode v.sign in
      let u = by_unit o.precision mode is in
      let few : made.number < number_limit = grind (arith, nat_tests) in
      let same : whole.absolute.number ≡ made.number = shown_number o made.number made.last_shown all few in
      let number : (rounded_with o 0 whole).number ≡ made.number =
      u.number whole.absolute.number ∙ ap (rounded_number mode u.unit) (same ∙ u.number v.absolute.number)
      ∙ rounded_number-idempotent mode u.unit v.absolute.number u.some ∙ sym (u.number v.absolute.number) in
      let end : (rounded_with o 0 whole).last_shown ≡ made.last_shown =
      u.shown whole.absolute.number ∙ sym (u.shown v.absolute.number) in
      rw (ap reaches_limit number ∙ fits)
      (λ i. Some (record v { absolute = shown o (number i) (end i) }))

pub applies_once : (o : DigitOptions) (v w : Decimal) → IsFractional o.precision → o.integer.max ≡ 32768
    → applied o v ≡ Some w → applied o w ≡ Some w
applies_once o v w is all makes = let f = once o v is all in grind arith
