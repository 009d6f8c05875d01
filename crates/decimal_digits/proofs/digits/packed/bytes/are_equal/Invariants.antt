use Rattle.std.proofs.Common.{◌≡◌, ◌-◌, ◌+◌, length, take}
use Rattle.decimal_digits.proofs.digits.packed.bytes.are_equal.Given as goal

abbrev pub invariant-loop-start : goal.invariant-loop-start
invariant-loop-start l = record {
  same : take l.start l.left ≡ take l.start l.right;
  end : l.end + 8 ≡ length l.left;
}

abbrev pub decreases-loop-start : goal.decreases-loop-start
decreases-loop-start l = l.end - l.start
