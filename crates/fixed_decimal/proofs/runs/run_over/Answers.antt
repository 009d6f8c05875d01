use Rattle.std.proofs.{Common.arith, KnownBytes.Keeps-refl, lemmas.Grind.common_steps}
use Rattle.fixed_decimal.proofs.lemmas.runs.RunInvariant.{run_fails}
use Rattle.fixed_decimal.proofs.runs.run_over.Goals as goal

pub returns-in-Err : goal.returns-in-Err
returns-in-Err g c = grind (arith, Keeps-refl, common_steps)

pub returns-in_err-apply_calls : goal.returns-in_err-apply_calls
returns-in_err-apply_calls g c = grind (arith, run_fails, Keeps-refl, common_steps)

pub returns : goal.returns
returns g c = grind arith
