-- The exponent that scientific and engineering notation have for a number that is shown.
use Rattle.std.proofs.{Common.{◌≡◌, ℕ, ◌*◌, ◌^◌, ◌<◌, Bool, true, false, inl, inr, refl, sym, ◌∙◌, ap, arith}, Math.Nat.le-mul_of_pos_right, lemmas.{Bool.cases_lt, Int.{ints, clamps}}}
use Rattle.std.specs.{Prelude.{if◌then◌else◌, Some, ℤ, pos, negsuc, unsigned_abs, ◌-ℤ◌, ◌≤ℤ◌}, Int.{int_max, int_min}}
use Rattle.decimal_digits.specs.Number.{offset, number_limit, first}
use Rattle.fixed_decimal.specs.Decimal.{Decimal}
use Rattle.fixed_decimal.proofs.Calling.{extent, first_of, offset_is, ten_pos, first_zero}
use Rattle.number_format.specs.{declared.{digits.options.DigitOptions.DigitOptions, notation.Notation.{Notation, TheVariants.{Scientific, Engineering}}}, ScientificReading.HasExponentOf, Scaled.{exponent_at, exponent_from_0, base_exponent, raised, ScaledValue, scaled, HasNoIncrement, IsOrdered}}
use Rattle.number_format.proofs.lemmas.{notation.Scales.{exponent_least, exponent_low, first_raised, keeps_exponent, keeps_value_of, once_or_twice, raised_below, settles, stays_above_0}, read.ShownValues.first_to}

first_from : (n : ℕ) → n < number_limit → negsuc 32767 ≤ℤ first n
first_from n few = elim (cases_lt 0 n) [
  | inl some ↦
      let e = extent (offset (pos 32768)) n some few (omega (arith, ints, offset_is (pos 32768))) in
      omega (arith, ints, first_of e)
  | inr none ↦ grind (arith, ints, first_zero)
]

-- ---- By engineering notation or not.

ordered : (b : Bool) → IsOrdered (if b then Engineering else Scientific)
ordered true = tt
ordered false = tt

-- no exponent is above its magnitude, or above 0 with a magnitude below 0
at_most : (b : Bool) (m : ℤ) → pos (exponent_from_0 (if b then Engineering else Scientific) m) ≤ℤ int_max (pos 0) m
at_most true m = grind (arith, ints, clamps)
at_most false m = grind (arith, ints, clamps)

-- a number times the power of ten has its first digit at magnitude 0 or above
raises : (b : Bool) (m : ℤ)
    → pos 0 ≤ℤ (m -ℤ int_min (pos 0) (exponent_at (if b then Engineering else Scientific) m))
raises true m = grind (arith, ints, clamps)
raises false m = grind (arith, ints, clamps)

base_of_0 : (b : Bool) → base_exponent (if b then Engineering else Scientific) 0 ≡ pos 0
base_of_0 true = grind (arith, ints, clamps, first_zero)
base_of_0 false = grind (arith, ints, clamps, first_zero)

-- the exponent is the one that the notation has for the significand
pub exponent_shown : (b : Bool) (o : DigitOptions) (v : Decimal) (s : ScaledValue) → HasNoIncrement o.precision
    → o.integer.max ≡ 32768 → v.absolute.number < number_limit
    → scaled (if b then Engineering else Scientific) o v ≡ Some s
    → HasExponentOf (if b then Engineering else Scientific) s.significand.absolute.number s.exponent
    × (unsigned_abs s.exponent < 2 ^ 32)
exponent_shown b o v s plain all few is =
    let notation : Notation = if b then Engineering else Scientific in
    let m = v.absolute.number in
    let n = raised notation m in
    let made = keeps_value_of notation o v all s is in
    let t = made.0 in
    let least = exponent_least notation (first m) in
    let below = raised_below m (unsigned_abs (base_exponent notation m)) few (omega (arith, ints, clamps, least)) in
    let law = settles notation o v.sign n plain (ordered b) below t made.1 (first n) refl in
    let less = (once_or_twice notation o v.sign n t made.1).1 in
    let small : unsigned_abs s.exponent < 2 ^ 32 =
    omega (
      arith,
      ints,
      clamps,
      made.3,
      law.own,
      at_most b (first t.number),
      first_to t.number less,
      first_from m few,
      least,
    ) in
    elim (cases_lt 0 s.significand.absolute.number) [
      | inl some ↦ (inl (some, (keeps_exponent notation o v plain (ordered b) few all s is).0), small)
      | inr none ↦
          let zero : s.significand.absolute.number ≡ 0 = omega (arith, none) in
          let nothing : t.number ≡ 0 = sym made.2 ∙ ap (λ k. k * 10 ^ t.exponent) zero ∙ (omega arith) in
          let own : t.exponent ≡ 0 =
          law.own ∙ exponent_low notation (first t.number) (omega (arith, ints, ap first nothing, first_zero)) in
          let start : m ≡ 0 = elim (cases_lt 0 m) [
            | inl some ↦
                let more = le-mul_of_pos_right m (ten_pos (unsigned_abs (base_exponent notation m))) in
                let up = first_raised notation m below (raises b (first m)) in
                absurd (omega (
                  arith,
                  nothing,
                  stays_above_0 notation o v.sign n plain (ordered b) below t made.1
                      (omega (arith, some, more)) up,
                ))
            | inr h ↦ omega (arith, h)
          ] in
          let base : base_exponent notation m ≡ pos 0 = ap (base_exponent notation) start ∙ base_of_0 b in
          (inr (zero, omega (arith, ints, made.3, own, base)), small)
    ]
