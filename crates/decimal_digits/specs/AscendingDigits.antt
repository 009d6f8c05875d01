-- The decimal digits of an integer, least significant first.
use Rattle.std.specs.Prelude.{ℕ, List, reverse}
use Rattle.std.specs.Int.Digits.{digits_of}

-- the digits of n, the last one first: 0, 5 and 2 of 250, and none of 0
abbrev pub ascending_digits : ℕ → List ℕ
ascending_digits n = reverse (digits_of 10 n)
