-- The digits that a value shows.
use Rattle.std.specs.Prelude.{ℕ, zero, suc, ◌+◌, List, [], ◌∷◌, ℤ, pos, ◌-ℤ◌}
use Rattle.std.specs.Int.{int_gap}
use Rattle.decimal_digits.specs.Number.{digit}
use Rattle.decimal_unsigned.specs.Unsigned.{Unsigned}

-- the digits at the given number of magnitudes, from m down
unfoldable pub digits_down : ℕ → ℤ → ℕ → List ℕ
digits_down number m zero = []
digits_down number m (suc n) = digit number m ∷ digits_down number (m -ℤ pos 1) n

-- one digit for each magnitude that is shown, the highest first: 0, 2, 5 and 0 of 02.50
abbrev pub shown_digits : Unsigned → List ℕ
shown_digits v = digits_down v.number v.hi (int_gap v.lo v.hi + 1)
