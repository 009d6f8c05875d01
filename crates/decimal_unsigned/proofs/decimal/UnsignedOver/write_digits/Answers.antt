use Rattle.std.proofs.{Common.arith, lemmas.{Grind.common_steps, Int.ints}}
use Rattle.decimal_digits.proofs.lemmas.ops.Offsets.{offset_is}
use Rattle.decimal_unsigned.proofs.decimal.UnsignedOver.write_digits.Goals as goal

pub copy_digits-requires-clause-in_limits : goal.copy_digits-requires-clause-in_limits
copy_digits-requires-clause-in_limits g c = grind (arith, ints, offset_is, common_steps)
