-- The value of a list of digits, and digits as packed BCD.
use Rattle.std.specs.Prelude.{◌≡◌, ℕ, ◌+◌, ◌-◌, List, length, pos, ◌-ℤ◌}
use Rattle.std.specs.Int.{int_min}
use Rattle.std.specs.Int.Digits.{AllBelowBase, number_from_digits}
use Rattle.decimal_digits.specs.Digits.{number_at}
use Rattle.decimal_unsigned.specs.Unsigned.{Unsigned}

-- the value of digits of which the first n are integer digits: 2.5 of 2 and 5 for n = 1, 2000 of 2 for n = 4
abbrev pub value_of_first : ℕ → List ℕ → Unsigned
value_of_first n ds = record {
  number = number_at (n + 32768) ds;
  hi = pos (n - 1);
  lo = int_min (pos n -ℤ pos (length ds)) (pos 0);
}

-- the number is the packed BCD of these digits, of which there are k: 0x125 of 1, 2 and 5
pub record IsBcd (n k : ℕ) (ds : List ℕ) : Type 0 where
  pub digits : AllBelowBase 10 ds
  pub count : length ds ≡ k
  pub number : n ≡ number_from_digits 16 ds
