use Rattle.std.proofs.Common.{◌≡◌, drop}
use Rattle.locale_data.specs.Compact.{run_at}
use Rattle.locale_data.proofs.compact.run_at.Given as goal

abbrev pub invariant-loop-run : goal.invariant-loop-run
invariant-loop-run l = run_at l.runs l.magnitude ≡ run_at (drop l.run-index l.runs) l.magnitude
