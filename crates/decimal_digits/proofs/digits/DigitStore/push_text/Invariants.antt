use Rattle.std.proofs.Common.{◌≡◌, ◌+◌, ◌≤◌, ◌++◌, take, map}
use Rattle.std.specs.Char.{digit_value}
use Rattle.decimal_digits.proofs.digits.DigitStore.push_text.Given as goal

abbrev pub invariant-loop-ascii : goal.invariant-loop-ascii
invariant-loop-ascii g l = record {
  digits : g.Self.DigitStore.digits l.self
      ≡ g.Self.DigitStore.digits l.initial.self ++ map digit_value (take l.ascii-index l.text);
  room : g.Self.DigitStore.room l.initial.self ≤ g.Self.DigitStore.room l.self + l.ascii-index;
}
