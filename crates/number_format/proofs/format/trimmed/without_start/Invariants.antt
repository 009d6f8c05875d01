use Rattle.std.proofs.Common.{◌≡◌, ℕ, List, ◌++◌, length}
use denote.Text.{Utf8}
use denote.Shadow.{shadow}
use Rattle.std.specs.Str.{chars}
use Rattle.number_format.specs.TrimmedTexts.{from_kept}
use Rattle.number_format.proofs.format.trimmed.without_start.Given as goal

abbrev pub invariant-loop-c : goal.invariant-loop-c
invariant-loop-c l = shadow (Utf8 l.rest)
    × ((before : List ℕ) × (l.text ≡ before ++ l.rest))
    × (from_kept (chars l.rest) ≡ from_kept (chars l.text))

abbrev pub decreases-loop-c : goal.decreases-loop-c
decreases-loop-c l = length (chars l.rest)
