use Rattle.std.proofs.Common.{◌≡◌, ℕ, ◌+◌, ◌*◌, ◌<◌, get_or}
use Rattle.decimal_digits.specs.Nibbles.{nibbles}
use Rattle.decimal_digits.proofs.digits.packed.bulk.write_pairs.Given as goal

abbrev pub invariant-loop-i : goal.invariant-loop-i
invariant-loop-i l = (k : ℕ) → k < 2 * l.i → get_or l.buffer k 0 ≡ 48 + get_or (nibbles l.bytes) k 0
