use Rattle.std.proofs.Common.{◌≡◌, ◌≤◌, take}
use Rattle.number_skeleton.specs.Decimal.{exponent_size}
use Rattle.number_skeleton.proofs.decimal.exponent_size.Given as goal

abbrev pub invariant-loop-byte : goal.invariant-loop-byte
invariant-loop-byte l = record {
  value : l.size ≡ exponent_size (take l.byte-index l.digits);
  at_most : l.size ≤ 1000000000;
}
