use Rattle.std.proofs.Common.{◌≡◌, ◌≤◌, take}
use Rattle.number_skeleton.specs.Decimal.{significand}
use Rattle.number_skeleton.proofs.decimal.significand_of.Given as goal

abbrev pub invariant-loop-byte : goal.invariant-loop-byte
invariant-loop-byte l = record {
  value : l.significand ≡ significand (take l.byte-index l.mantissa);
  few : l.significand.zeros ≤ l.byte-index;
}
