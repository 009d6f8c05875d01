use Rattle.std.proofs.Common.{◌≡◌, ℕ, ◌<◌, ◌≤◌, get_or}
use Rattle.decimal_digits.proofs.digits.DigitStore.count_trailing.Given as goal

abbrev pub invariant-loop-index : goal.invariant-loop-index
invariant-loop-index g l = (k : ℕ) → l.index ≤ k → k < l.count → get_or (g.Self.DigitStore.digits l.self) k 0 ≡ l.digit
