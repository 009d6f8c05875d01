-- The law of concatenation.
use Rattle.std.specs.Prelude.{◌≡◌, Option, Some, None, option_and_then, if◌then◌else◌}
use Rattle.decimal_unsigned.specs.Unsigned.{Unsigned}
use Rattle.decimal_unsigned.specs.Concatenation.{overlaps, concatenated_end}

-- the joined value, or none if the two overlap
abbrev pub concatenation : Unsigned → Unsigned → Option Unsigned
concatenation v w = if overlaps v w then None else Some (concatenated_end v w)

-- three values joined from either side give the same value, or none from both
abbrev pub ConcatenationIsAssociative : Unsigned → Unsigned → Unsigned → Type 0
ConcatenationIsAssociative u v w =
    option_and_then (λ uv. concatenation uv w) (concatenation u v)
    ≡ option_and_then (λ vw. concatenation u vw) (concatenation v w)
