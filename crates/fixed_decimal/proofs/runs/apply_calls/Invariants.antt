use Rattle.fixed_decimal.proofs.lemmas.runs.RunInvariant.{IsAt}
use Rattle.fixed_decimal.proofs.runs.apply_calls.Given as goal

abbrev pub invariant-loop-at : goal.invariant-loop-at
invariant-loop-at g l = IsAt l.fn.value l.calls l.at l.value
