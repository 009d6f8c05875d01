use Rattle.std.proofs.Common.{◌≡◌, ℕ, ◌<◌, length, get_or}
use Rattle.decimal_digits.specs.Nibbles.{nibbles}
use Rattle.decimal_digits.proofs.digits.packed.nibbles.unpack.Given as goal

abbrev pub invariant-loop-index : goal.invariant-loop-index
invariant-loop-index l = record {
  size : length l.unpacked ≡ 32;
  same : (k : ℕ) → k < l.index → get_or l.unpacked k 0 ≡ get_or (nibbles l.bytes) k 0;
}
