use Rattle.std.proofs.Common.{◌≡◌, ℕ, ◌<◌, ◌≤◌, length, get_or}
use Rattle.decimal_digits.proofs.digits.packed.bulk.count_trailing_bytes.Given as goal

abbrev pub invariant-loop-index : goal.invariant-loop-index
invariant-loop-index l = (k : ℕ) → l.index ≤ k → k < length l.bytes → get_or l.bytes k 0 ≡ l.byte
