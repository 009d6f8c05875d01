use Rattle.std.proofs.{Common.arith, lemmas.Grind.common_steps}
use Rattle.decimal_unsigned.proofs.decimal.UnsignedOver.pad_start.Goals as goal

pub set_highest-requires : goal.set_highest-requires
set_highest-requires g c = grind (arith, common_steps)

pub returns-then-position-gt0 : goal.returns-then-position-gt0
returns-then-position-gt0 g c = grind (arith, common_steps)
