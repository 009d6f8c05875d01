use Rattle.std.proofs.Common.{◌≡◌, ℕ, ◌≤◌, get_or}
use Rattle.decimal_unsigned.proofs.decimal.from_integer.trimmed_len.Given as goal

abbrev pub invariant-loop-index : goal.invariant-loop-index
invariant-loop-index l = (k : ℕ) → l.index ≤ k → get_or l.digits k 0 ≡ 0
