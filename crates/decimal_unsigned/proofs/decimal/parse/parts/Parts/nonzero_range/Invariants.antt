use Rattle.std.proofs.Common.{◌≡◌, ℕ, ◌<◌, ◌≤◌, length, get_or}
use Rattle.decimal_unsigned.specs.{Parts.view, ScannedDigits.digits_of}
use Rattle.decimal_unsigned.proofs.decimal.parse.parts.Parts.nonzero_range.Given as goal

abbrev pub invariant-loop-end : goal.invariant-loop-end
invariant-loop-end l = record {
  within : l.end ≤ length (digits_of (view l.self));
  after : (k : ℕ) → l.end ≤ k → get_or (digits_of (view l.self)) k 0 ≡ 0;
}

abbrev pub decreases-loop-end : goal.decreases-loop-end
decreases-loop-end l = l.end

abbrev pub invariant-loop-start : goal.invariant-loop-start
invariant-loop-start l = (k : ℕ) → k < l.start → get_or (digits_of (view l.self)) k 0 ≡ 0
