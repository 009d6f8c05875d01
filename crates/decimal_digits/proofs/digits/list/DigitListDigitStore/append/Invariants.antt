use Rattle.std.proofs.Common.{◌≡◌, ◌++◌, replicate}
use Rattle.decimal_digits.proofs.digits.list.DigitListDigitStore.append.Given as goal

abbrev pub invariant-loop : goal.invariant-loop
invariant-loop l = record {
  items : l.self.bytes.items ≡ l.initial.self.bytes.items ++ replicate l.counter 0;
  capacity : l.self.bytes.capacity ≡ l.initial.self.bytes.capacity;
}
