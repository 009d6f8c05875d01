-- The letter before the exponent of compact notation.
use Rattle.std.specs.Prelude.{ℕ, ◌==◌, Bool}
use Rattle.decimal_digits.specs.Ascii.{lowercase_c}

-- the letter c
abbrev pub is_c : ℕ → Bool
is_c c = c == lowercase_c
