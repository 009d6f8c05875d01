-- The symbols of a decimal's own text.
use Rattle.std.specs.Prelude.{ℕ, List, [], ◌∷◌}
use Rattle.decimal_format.specs.{declared.grouping.GroupingSizes.GroupingSizes, Symbols.{Symbols, symbols, affixes}}

-- the characters 0 to 9
abbrev pub ascii_digits : List ℕ
ascii_digits = 48 ∷ 49 ∷ 50 ∷ 51 ∷ 52 ∷ 53 ∷ 54 ∷ 55 ∷ 56 ∷ 57 ∷ []

-- with `.`, this grouping separator, `-`, `+`, and these sizes
abbrev pub ascii_with : List ℕ → GroupingSizes → Symbols
ascii_with grouping sizes =
    symbols ascii_digits (46 ∷ []) grouping (affixes (45 ∷ []) []) (affixes (43 ∷ []) []) sizes

-- with commas between groups of three
abbrev pub ascii_symbols : Symbols
ascii_symbols = ascii_with (44 ∷ []) (record { primary = 3; secondary = 0; min_grouping = 1 })
