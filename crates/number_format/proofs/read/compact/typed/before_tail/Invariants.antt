use Rattle.std.proofs.Common.{◌≡◌, ◌++◌, List, ℕ, length}
use denote.Text.{Utf8}
use denote.Shadow.{shadow}
use Rattle.std.specs.{Char.Unicode.Numeric.is_numeric, Str.{chars, NonePass}}
use Rattle.number_format.proofs.read.compact.typed.before_tail.Given as goal

abbrev pub invariant-loop-before : goal.invariant-loop-before
invariant-loop-before l = shadow (Utf8 l.rest)
    × ((after : List ℕ) × (l.text ≡ l.rest ++ after))
    × ((tail : List ℕ) × (chars l.text ≡ chars l.rest ++ tail) × NonePass is_numeric tail)

abbrev pub decreases-loop-before : goal.decreases-loop-before
decreases-loop-before l = length (chars l.rest)
