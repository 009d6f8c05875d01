use Rattle.std.proofs.{Common.arith, lemmas.Grind.common_steps}
use Rattle.decimal_unsigned.proofs.decimal.parse.plan.highest_shown.Goals as goal

pub returns-else-first-gt0 : goal.returns-else-first-gt0
returns-else-first-gt0 c = grind (arith, common_steps)
