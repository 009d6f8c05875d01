-- Decimal numbers as natural numbers of units, where a unit is 10 ^ -32768: the number 1 is 10 ^ 32768 units.
use Rattle.std.specs.Prelude.{◌≡◌, ℕ, zero, suc, ◌+◌, ◌-◌, ◌/◌, ◌%◌, ◌^◌, ◌<◌, ◌≤◌, ◌==◌, Bool, cond, if◌then◌else◌, nat_le, ℤ, pos, negsuc, ◌-ℤ◌}
use Rattle.std.specs.Int.{int_gap}

-- the lowest magnitude, -32768
abbrev pub lowest_magnitude : ℤ
lowest_magnitude = negsuc 32767

-- the highest magnitude, 32767
abbrev pub highest_magnitude : ℤ
highest_magnitude = pos 32767

-- how far a magnitude is above the lowest one: 32768 of 0, and 0 of -32768 or less
unfoldable pub offset : ℤ → ℕ
offset (pos n) = 32768 + n
offset (negsuc n) = 32767 - n

-- 10 to the power of a magnitude, in units
abbrev pub weight : ℤ → ℕ
weight m = 10 ^ offset m

-- 10 ^ 32768, in units: each number is less
abbrev pub number_limit : ℕ
number_limit = weight (pos 32768)

-- the magnitude at an offset: `offset` of it is k again
abbrev pub magnitude_at : ℕ → ℤ
magnitude_at k = pos k -ℤ pos 32768

-- the digit of a number at a magnitude
abbrev pub digit : ℕ → ℤ → ℕ
digit number m = number / weight m % 10

-- m is the magnitude of the first nonzero digit: 10 ^ m is at most the number, and 10 ^ (m + 1) is greater; for the
-- number 0, m is 0
pub record IsFirst (number : ℕ) (m : ℤ) : Type 0 where
  pub reaches : 0 < number → weight m ≤ number
  pub less : 0 < number → number < 10 ^ (offset m + 1)
  pub none : number ≡ 0 → m ≡ pos 0

-- m is the magnitude of the last nonzero digit: 10 ^ m divides the number, and no higher power of ten does; for the
-- number 0, m is 0
pub record IsLast (number : ℕ) (m : ℤ) : Type 0 where
  pub divides : 0 < number → number % weight m ≡ 0
  pub highest : 0 < number → (k : ℕ) → offset m < k → ¬ (number % 10 ^ k ≡ 0)
  pub none : number ≡ 0 → m ≡ pos 0

-- the greatest k below the bound that passes the test, or 0 if none does
unfoldable pub greatest : (ℕ → Bool) → ℕ → ℕ
greatest test zero = 0
greatest test (suc k) = cond (test k) k (greatest test k)

-- the m of `IsFirst`, for each number below the limit: the search only finds the magnitude that this record describes
-- (lemma `first_is`)
unfoldable pub first : ℕ → ℤ
first zero = pos 0
first (suc n) = magnitude_at (greatest (λ k. nat_le (10 ^ k) (suc n)) 65536)

-- the m of `IsLast`, for each number below the limit: the search only finds the magnitude that this record describes
-- (lemma `last_at`)
unfoldable pub last : ℕ → ℤ
last zero = pos 0
last (suc n) = magnitude_at (greatest (λ k. suc n % 10 ^ k == 0) 65536)

-- the number of digits from the first to the last nonzero one, zeros between them included; 0 has none
abbrev pub size : ℕ → ℕ
size number = if number == 0 then 0 else int_gap (last number) (first number) + 1
