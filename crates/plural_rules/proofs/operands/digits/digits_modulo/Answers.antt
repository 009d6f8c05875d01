use Rattle.std.proofs.{Common.{◌≡◌, ◌+◌, ◌-◌, ◌%◌, ◌^◌, w16, to_z, of_z, refl, ◌∙◌, arith}, lemmas.Int.{ints, to_z-of_z}}
use Rattle.decimal_digits.specs.Number.{offset}
use Rattle.fixed_decimal.proofs.Calling.{offset_is, narrow_kept}
use Rattle.plural_rules.specs.DigitSlice.{digit_slice}
use Rattle.plural_rules.proofs.lemmas.operands.DigitSlice.{digit_slice-last}
use Rattle.plural_rules.proofs.operands.digits.digits_modulo.Goals as goal

pub magnitude_below-requires : goal.magnitude_below-requires
magnitude_below-requires g c = grind (arith, ints, to_z-of_z, offset_is)

pub horner_modulo-requires-clause-in_limits : goal.horner_modulo-requires-clause-in_limits
horner_modulo-requires-clause-in_limits g c = grind (arith, ints, to_z-of_z, narrow_kept, offset_is)

pub returns-in-Some : goal.returns-in-Some
returns-in-Some g c =
    let n = c.args.value.now.number in
    let top = offset c.args.top + 1 in
    let count = c.args.count in
    let zeros = c.in-Some.zeros in
    let kept : to_z w16 (of_z w16 c.args.top) ≡ c.args.top = to_z-of_z w16 c.args.top c.ranges.top in
    let m = to_z w16 (of_z w16 c.magnitude_below.result) in
    let is : m ≡ c.magnitude_below.result = narrow_kept c.magnitude_below.type_inv in
    let low : offset m + 1 ≡ top - (count - zeros) =
    omega (arith, ints, offset_is c.args.top, offset_is m, is, c.requires.in_limits, kept, c.magnitude_below.ensures) in
    let power : c.args.modulus ≡ 10 ^ zeros = c.in-Some.ensures in
    let last = digit_slice-last n top count zeros c.if-zeros-count.true c.requires.in_limits in
    let by_power : c.horner_modulo.result ≡ digit_slice n (top - (count - zeros)) zeros % 10 ^ zeros =
    rw (c.horner_modulo.ensures, low, power) refl in
    rw power (by_power ∙ last)
