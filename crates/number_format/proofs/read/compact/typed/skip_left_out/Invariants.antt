use Rattle.std.proofs.Common.{◌≡◌, [], ◌++◌, List, ℕ, length}
use denote.Text.{Utf8}
use denote.Shadow.{shadow}
use Rattle.std.specs.Str.{chars}
use Rattle.number_format.specs.TypedWords.{folded}
use Rattle.number_format.proofs.read.compact.typed.skip_left_out.Given as goal

abbrev pub invariant-loop-c : goal.invariant-loop-c
invariant-loop-c l = shadow (Utf8 l.rest)
    × ((out : List ℕ) × (chars l.text ≡ out ++ chars l.rest) × (folded out ≡ []))

abbrev pub decreases-loop-c : goal.decreases-loop-c
decreases-loop-c l = length (chars l.rest)
