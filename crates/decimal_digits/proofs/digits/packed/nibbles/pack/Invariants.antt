use Rattle.std.proofs.Common.{◌≡◌, ℕ, ◌+◌, ◌*◌, ◌%◌, ◌<◌, get_or, drop}
use Rattle.decimal_digits.proofs.digits.packed.nibbles.pack.Given as goal

abbrev pub invariant-loop-i : goal.invariant-loop-i
invariant-loop-i l = record {
  rest : l.rest ≡ drop (2 * l.i) l.digits;
  packed : (k : ℕ) → k < l.i
      → get_or l.bytes k 0 ≡ get_or l.digits (2 * k) 0 % 16 * 16 + get_or l.digits (2 * k + 1) 0 % 16;
}
