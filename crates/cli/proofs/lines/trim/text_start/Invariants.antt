use Rattle.std.proofs.Common.{◌≡◌, ℕ, ◌<◌, true, get_or}
use Rattle.cli.specs.Trim.{is_blank}
use Rattle.cli.proofs.lines.trim.text_start.Given as goal

-- the bytes so far are blanks
abbrev pub invariant-loop-at : goal.invariant-loop-at
invariant-loop-at l = (k : ℕ) → k < l.at → is_blank (get_or l.bytes k 0) ≡ true
