use Rattle.std.proofs.Common.{◌≡◌, ℕ, ◌<◌, ◌≤◌, true, length, get_or}
use Rattle.cli.specs.Trim.{is_blank}
use Rattle.cli.proofs.lines.trim.text_end.Given as goal

-- the bytes from `end` on are blanks
abbrev pub invariant-loop-end : goal.invariant-loop-end
invariant-loop-end l = record {
  inside : l.end ≤ length l.bytes;
  blank : (k : ℕ) → l.end ≤ k → k < length l.bytes → is_blank (get_or l.bytes k 0) ≡ true;
}

abbrev pub decreases-loop-end : goal.decreases-loop-end
decreases-loop-end l = l.end
