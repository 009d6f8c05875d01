use Rattle.std.proofs.Common.{◌≡◌, ℕ, List, ◌++◌, length, reverse}
use denote.Text.{Utf8}
use denote.Shadow.{shadow}
use Rattle.std.specs.Str.{chars}
use Rattle.number_format.specs.TrimmedTexts.{from_kept}
use Rattle.number_format.proofs.format.trimmed.without_end.Given as goal

abbrev pub invariant-loop-before : goal.invariant-loop-before
invariant-loop-before l = shadow (Utf8 l.rest)
    × ((after : List ℕ) × (l.text ≡ l.rest ++ after))
    × (from_kept (reverse (chars l.rest)) ≡ from_kept (reverse (chars l.text)))

abbrev pub decreases-loop-before : goal.decreases-loop-before
decreases-loop-before l = length (chars l.rest)
