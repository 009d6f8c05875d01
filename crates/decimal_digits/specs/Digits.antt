-- Lists of decimal digits, most significant first.
use Rattle.std.specs.Prelude.{ℕ, ◌+◌, ◌-◌, ◌*◌, ◌^◌, ◌<◌, List, length, map, slice_index, ℤ}
use Rattle.std.specs.Int.Digits.{number_from_digits}
use Rattle.decimal_digits.specs.Number.{offset}

-- the number of `top` digits that begins with these and goes on with zeros: 2500 of 2 and 5 at 4; used only where there
-- are at most `top` digits, so the subtraction is exact
unfoldable pub number_at : ℕ → List ℕ → ℕ
number_at top digits = number_from_digits 10 digits * 10 ^ (top - length digits)

-- the number of the digits, in units, where the first is at this magnitude
unfoldable pub number_of : List ℕ → ℤ → ℕ
number_of digits magnitude = number_at (offset magnitude + 1) digits

-- neither the first nor the last digit is 0
pub record IsStripped (digits : List ℕ) : Type 0 where
  pub front : 0 < length digits → 0 < slice_index digits 0
  pub back : 0 < length digits → 0 < slice_index digits (length digits - 1)

-- the digits as ASCII, one byte each; 48 is the byte of `0`
abbrev pub text_of : List ℕ → List ℕ
text_of digits = map (λ d. 48 + d) digits
