use Rattle.std.proofs.Common.{◌≡◌, ◌*◌, ◌≤◌, ◌++◌, replicate}
use Rattle.decimal_digits.proofs.digits.packed.nibbles.push_zeros.Given as goal

abbrev pub invariant-loop : goal.invariant-loop
invariant-loop l = record {
  items : l.bytes.items ≡ l.initial.bytes.items ++ replicate (64 * l.counter) 0;
  capacity : l.initial.bytes.capacity ≤ l.bytes.capacity;
}
