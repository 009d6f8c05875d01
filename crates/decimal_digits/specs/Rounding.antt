-- Rounding of natural numbers to the multiples of a unit.
use Rattle.std.specs.Prelude.{◌≡◌, ◌≢◌, ℕ, ◌+◌, ◌-◌, ◌*◌, ◌/◌, ◌%◌, ◌<◌, ◌≤◌, ◌==◌, nat_lt, if◌then◌else◌, ℤ, pos, ◌-ℤ◌, ◌*ℤ◌, ◌≤ℤ◌, unsigned_abs}
use Rattle.decimal_digits.specs.Number.{weight, size, number_limit}
use Rattle.decimal_digits.specs.declared.rounding.RoundingIncrement.{RoundingIncrement}
use Rattle.decimal_digits.specs.declared.rounding.RoundingIncrement.TheVariants.{MultiplesOf1, MultiplesOf2, MultiplesOf5, MultiplesOf25}
use Rattle.decimal_digits.specs.declared.rounding.UnsignedRoundingMode.{UnsignedRoundingMode}
use Rattle.decimal_digits.specs.declared.rounding.UnsignedRoundingMode.TheVariants.{Expand, Trunc, HalfExpand, HalfTrunc, HalfEven}
use Rattle.decimal_digits.specs.declared.rounding.RoundError.{RoundError}
use Rattle.decimal_digits.specs.declared.rounding.RoundError.TheVariants.{Limit, Memory}

-- ---- The unit.

-- the increment as a number
abbrev pub step_of : RoundingIncrement → ℕ
step_of MultiplesOf1 = 1
step_of MultiplesOf2 = 2
step_of MultiplesOf5 = 5
step_of MultiplesOf25 = 25

-- the unit: the increment times 10 to the power of the position
abbrev pub unit_at : RoundingIncrement → ℤ → ℕ
unit_at increment position = step_of increment * weight position

-- ---- The multiple that a mode chooses, among all positive and negative ones. Below, z is a multiple of the unit u.

-- the distance of two numbers
abbrev pub distance : ℤ → ℤ → ℕ
distance s z = unsigned_abs (s -ℤ z)

-- no multiple of u is nearer to s than z is
abbrev pub IsNearest : ℕ → ℤ → ℤ → Type 0
IsNearest u s z = (k : ℤ) → distance s z ≤ distance s (k *ℤ pos u)

-- each multiple of u at the same distance from s as z has the property P
abbrev pub AllTies : ℕ → ℤ → ℤ → (ℤ → Type 0) → Type 0
AllTies u s z P = (k : ℤ) → distance s (k *ℤ pos u) ≡ distance s z → P (k *ℤ pos u)

-- z is the least multiple of u that is at least s
abbrev pub IsCeil : ℕ → ℤ → ℤ → Type 0
IsCeil u s z = (s ≤ℤ z) × ((k : ℤ) → s ≤ℤ (k *ℤ pos u) → z ≤ℤ (k *ℤ pos u))

-- z is the greatest multiple of u that is at most s
abbrev pub IsFloor : ℕ → ℤ → ℤ → Type 0
IsFloor u s z = (z ≤ℤ s) × ((k : ℤ) → (k *ℤ pos u) ≤ℤ s → (k *ℤ pos u) ≤ℤ z)

-- z is the multiple of u that is nearest to s, and of two nearest ones the greater: for -25 and u = 10 it is -20
abbrev pub IsHalfCeil : ℕ → ℤ → ℤ → Type 0
IsHalfCeil u s z = IsNearest u s z × AllTies u s z (λ other. other ≤ℤ z)

-- z is the multiple of u that is nearest to s, and of two nearest ones the smaller: for -25 and u = 10 it is -30
abbrev pub IsHalfFloor : ℕ → ℤ → ℤ → Type 0
IsHalfFloor u s z = IsNearest u s z × AllTies u s z (λ other. z ≤ℤ other)

-- for n the mode chooses q times u; of two nearest ones `HalfEven` chooses the one whose quotient q is even
abbrev pub Chooses : UnsignedRoundingMode → ℕ → ℕ → ℕ → Type 0
Chooses Trunc u n q = IsFloor u (pos n) (pos (q * u))
Chooses Expand u n q = IsCeil u (pos n) (pos (q * u))
Chooses HalfExpand u n q = IsHalfCeil u (pos n) (pos (q * u))
Chooses HalfTrunc u n q = IsHalfFloor u (pos n) (pos (q * u))
Chooses HalfEven u n q =
    IsNearest u (pos n) (pos (q * u)) × AllTies u (pos n) (pos (q * u)) (λ other. other ≢ pos (q * u) → q % 2 ≡ 0)

-- m is the multiple of u that the mode chooses for n
abbrev pub Named : UnsignedRoundingMode → ℕ → ℕ → ℕ → Type 0
Named mode u n m = (q : ℕ) × (m ≡ q * u) × Chooses mode u n q

-- ---- The same multiple, by a division.

-- the greatest multiple of u that is at most n
abbrev pub below : ℕ → ℕ → ℕ
below u n = n - n % u

-- the least multiple of u that is at least n
abbrev pub above : ℕ → ℕ → ℕ
above u n = if n % u == 0 then n else n - n % u + u

-- the multiple of u that the mode chooses for n: the half modes compare twice the remainder with u
unfoldable pub rounded_number : UnsignedRoundingMode → ℕ → ℕ → ℕ
rounded_number Trunc u n = below u n
rounded_number Expand u n = above u n
rounded_number HalfExpand u n = if nat_lt (2 * (n % u)) u then below u n else above u n
rounded_number HalfTrunc u n = if nat_lt u (2 * (n % u)) then above u n else below u n
rounded_number HalfEven u n =
    if nat_lt (2 * (n % u)) u then below u n
    else if nat_lt u (2 * (n % u)) then above u n
    else if n / u % 2 == 0 then below u n
    else above u n

-- ---- The errors of a rounding.

-- a rounding to n needs memory only by 25, and only if n is below the limit and has one digit more than the `digits`
-- before, which are at least the `fit` digits that fit without an allocation
pub record DigitRoundingNeedsMemory (increment : RoundingIncrement) (digits n fit : ℕ) : Type 0 where
  pub by_25 : increment ≡ MultiplesOf25
  pub below_limit : n < number_limit
  pub longer : size n ≡ digits + 1
  pub full : fit ≤ digits

-- the error of a rounding to n: n reaches the limit, or memory is needed for one more digit
abbrev pub DigitRoundingFails : RoundError → RoundingIncrement → ℕ → ℕ → ℕ → Type 0
DigitRoundingFails Limit increment digits n fit = number_limit ≤ n
DigitRoundingFails Memory increment digits n fit = DigitRoundingNeedsMemory increment digits n fit
