use Rattle.std.proofs.Common.{◌≡◌, ◌+◌, ◌++◌, drop, length, reverse}
use Rattle.decimal_digits.specs.AscendingDigits.{ascending_digits}
use Rattle.decimal_unsigned.proofs.decimal.from_integer.write_integer_digits.Given as goal

abbrev pub invariant-loop-digit : goal.invariant-loop-digit
invariant-loop-digit g l = record {
  all : l.yielded ++ l.digit-iterator ≡ ascending_digits (g.T.UnsignedInteger.number l.fn.integer);
  start : l.start + length l.yielded ≡ 39;
  placed : drop l.start l.buffer ≡ reverse l.yielded;
}
