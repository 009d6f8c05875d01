use Rattle.std.proofs.Common.{◌≡◌, ℕ, ◌<◌, ◌≤◌, get_or}
use Rattle.decimal_unsigned.proofs.decimal.shown_range.first_nonzero.Given as goal

abbrev pub invariant-loop-index : goal.invariant-loop-index
invariant-loop-index g l = (k : ℕ) → l.from ≤ k → k < l.index → get_or (g.D.DigitStore.digits l.digits) k 0 ≡ 0
