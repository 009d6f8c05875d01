-- The list of digits after a rounding, as in the contract of `rounding::round`.
use Rattle.std.specs.Prelude.{◌≡◌, ℕ, ◌+◌, ◌<◌, ◌≤◌, List, length, ℤ, ◌≤ℤ◌}
use Rattle.decimal_digits.specs.Number.{offset, first, number_limit, lowest_magnitude, highest_magnitude}
use Rattle.decimal_digits.specs.Digits.{number_of, IsStripped}

-- the digits, with no 0 at either end, write the number n, which is below the limit, and this is the magnitude of the
-- first of them
pub record Represents (digits : List ℕ) (magnitude : ℤ) (n : ℕ) : Type 0 where
  pub number : number_of digits magnitude ≡ n
  pub below_limit : n < number_limit
  pub magnitude_is : first n ≡ magnitude
  pub stripped : IsStripped digits
  pub fits : length digits ≤ offset magnitude + 1
  pub least : lowest_magnitude ≤ℤ magnitude
  pub greatest : magnitude ≤ℤ highest_magnitude

-- no digit is below the position
abbrev pub NoDigitsBelow : ℤ → List ℕ → ℤ → Type 0
NoDigitsBelow position digits magnitude = 0 < length digits → offset position + length digits ≤ offset magnitude + 1
