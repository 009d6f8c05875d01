use Rattle.std.proofs.{Common.arith, lemmas.Grind.common_steps}
use Rattle.decimal_unsigned.specs.Concatenation.{overlaps}
use Rattle.decimal_unsigned.proofs.decimal.UnsignedOver.overlaps.Goals as goal

pub returns : goal.returns
unfolding overlaps
returns g c = grind (arith, common_steps)
