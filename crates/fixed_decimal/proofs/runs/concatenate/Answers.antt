use Rattle.std.proofs.{Common.arith, lemmas.Grind.common_steps}
use Rattle.fixed_decimal.proofs.runs.concatenate.Goals as goal

pub returns-in-Err : goal.returns-in-Err
returns-in-Err g c = grind (arith, common_steps)

pub returns : goal.returns
returns g c = grind (arith, common_steps)
