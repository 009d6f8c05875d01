use Rattle.std.proofs.{Common.arith, lemmas.Int.{ints, to_z-of_z}}
use Rattle.fixed_decimal.proofs.Calling.{offset_is, narrow_kept}
use Rattle.plural_rules.proofs.lemmas.operands.DigitSlice.{step}
use Rattle.plural_rules.proofs.operands.digits.digit_below.Goals as goal

pub magnitude_below-requires : goal.magnitude_below-requires
magnitude_below-requires g c = omega (arith, ints, offset_is c.args.top, c.requires)

pub returns-clause-next : goal.returns-clause-next
returns-clause-next g c = grind (arith, to_z-of_z, narrow_kept, step)
