use Rattle.std.proofs.Common.{◌≡◌, ℕ, ◌<◌, false, get_or}
use Rattle.number_skeleton.specs.Counts.{is_outside}
use Rattle.number_skeleton.proofs.counts.run.Given as goal

abbrev pub invariant-loop-index : goal.invariant-loop-index
invariant-loop-index l = (k : ℕ) → k < l.index → is_outside l.low l.high (get_or l.text k 0) ≡ false
