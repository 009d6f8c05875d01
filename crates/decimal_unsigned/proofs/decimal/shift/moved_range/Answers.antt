use Rattle.std.proofs.{Common.arith, lemmas.Grind.common_steps}
use Rattle.decimal_unsigned.proofs.decimal.shift.moved_range.Goals as goal

pub returns-then-delta-lt0 : goal.returns-then-delta-lt0
returns-then-delta-lt0 c = grind (arith, common_steps)

pub returns : goal.returns
returns c = grind (arith, common_steps)
