use Rattle.std.proofs.Common.{◌≡◌, ℕ, ◌+◌, ◌*◌, ◌/◌, ◌%◌, ◌<◌, ◌≤◌, get_or}
use Rattle.decimal_digits.proofs.digits.packed.nibbles.remove_high_nibble.Given as goal

abbrev pub invariant-loop-i : goal.invariant-loop-i
invariant-loop-i l = record {
  are_bytes : (k : ℕ) → get_or l.initial.bytes k 0 < 256;
  before : (k : ℕ) → k < l.at → get_or l.bytes k 0 ≡ get_or l.initial.bytes k 0;
  written : (k : ℕ) → l.at ≤ k → k < l.i
      → get_or l.bytes k 0 ≡ get_or l.initial.bytes k 0 % 16 * 16 + get_or l.initial.bytes (k + 1) 0 / 16;
  rest : (k : ℕ) → l.i ≤ k → get_or l.bytes k 0 ≡ get_or l.initial.bytes k 0;
}
