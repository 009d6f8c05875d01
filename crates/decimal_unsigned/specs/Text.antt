-- The text of a value.
use Rattle.std.specs.Prelude.{ℕ, zero, suc, ◌+◌, List, [], ◌∷◌, ◌++◌, ℤ, pos, negsuc, ◌-ℤ◌}
use Rattle.std.specs.Int.{int_gap}
use Rattle.decimal_digits.specs.Ascii.{decimal_point}
use Rattle.decimal_digits.specs.Number.{digit}
use Rattle.decimal_unsigned.specs.Unsigned.{Unsigned}

-- the decimal point before magnitude -1; nothing before the others
abbrev pub dot_before : ℤ → List ℕ
dot_before (pos k) = []
dot_before (negsuc zero) = decimal_point ∷ []
dot_before (negsuc (suc k)) = []

-- the bytes of the given number of magnitudes, from m down; 48 is the byte of `0`
unfoldable pub text_down : ℕ → ℤ → ℕ → List ℕ
text_down number m zero = []
text_down number m (suc n) = (dot_before m ++ (48 + digit number m) ∷ []) ++ text_down number (m -ℤ pos 1) n

-- one digit for each magnitude that is shown, the highest first: 02.50 of 2.5 with hi 1 and lo -2
abbrev pub text : Unsigned → List ℕ
text v = text_down v.number v.hi (int_gap v.lo v.hi + 1)
