-- The value after a rounding.
use Rattle.std.specs.Prelude.{◌≡◌, ℕ, ◌<◌, Bool, nat_le, if◌then◌else◌, Option, Some, None, Result, MatchResult, ℤ, pos, ◌-ℤ◌, ◌<ℤ◌}
use Rattle.std.specs.Int.{int_max, int_min}
use Rattle.decimal_digits.specs.Number.{number_limit, first, size}
use Rattle.decimal_digits.specs.Rounding.{unit_at, Named, rounded_number, DigitRoundingNeedsMemory}
use Rattle.decimal_digits.specs.declared.rounding.RoundError.{RoundError}
use Rattle.decimal_digits.specs.declared.rounding.RoundError.TheVariants.{Limit, Memory}
use Rattle.decimal_digits.specs.declared.rounding.RoundingIncrement.{RoundingIncrement}
use Rattle.decimal_digits.specs.declared.rounding.RoundingIncrement.TheVariants.{MultiplesOf1, MultiplesOf25}
use Rattle.decimal_digits.specs.declared.rounding.UnsignedRoundingMode.{UnsignedRoundingMode}
use Rattle.decimal_unsigned.specs.Unsigned.{Unsigned, IsValue}

-- a rounding: its position, its mode, and its increment
pub record Rounding (Mode : Type 0) : Type 0 where
  pub position : ℤ
  pub mode : Mode
  pub increment : RoundingIncrement

-- the rounding with this position, mode and increment
abbrev pub rounding : {Mode : Type 0} → ℤ → Mode → RoundingIncrement → Rounding Mode
rounding position mode increment = record { position = position; mode = mode; increment = increment }

-- the rounding to a multiple of 10 to the power of the position, which is that by `MultiplesOf1`
abbrev pub rounding_by_1 : {Mode : Type 0} → ℤ → Mode → Rounding Mode
rounding_by_1 position mode = rounding position mode MultiplesOf1

-- the unit of a rounding: each result is a multiple of it
abbrev pub unit_of : {Mode : Type 0} → Rounding Mode → ℕ
unit_of r = unit_at r.increment r.position

-- the number is 10 ^ 32768 or more
abbrev pub reaches_limit : ℕ → Bool
reaches_limit number = nat_le number_limit number

-- the value with another number, shown down to the position or to 0, and from the highest of the old range, the
-- magnitude just below the position, and the first nonzero digit
abbrev pub with_number : Unsigned → ℤ → ℕ → Unsigned
with_number v position number = record {
  number = number;
  hi = int_max (int_max v.hi (position -ℤ pos 1)) (first number);
  lo = int_min position (pos 0);
}

-- the value rounded at the position to this multiple, or none if that reaches the limit
abbrev pub rounded_to : Unsigned → ℤ → ℕ → Option Unsigned
rounded_to v position number = if reaches_limit number then None else Some (with_number v position number)

-- the rounded value, by the remainder of the number, or none if that reaches the limit
abbrev pub rounded : Unsigned → Rounding UnsignedRoundingMode → Option Unsigned
rounded v r = rounded_to v r.position (rounded_number r.mode (unit_of r) v.number)

-- `new` is the value rounded to the multiple that the mode chooses among all multiples
abbrev pub NamesRounded : Unsigned → Rounding UnsignedRoundingMode → Option Unsigned → Type 0
NamesRounded old r new = (m : ℕ) × Named r.mode (unit_of r) old.number m × (rounded_to old r.position m ≡ new)

-- `new` is the result of rounding a valid value: both by the remainder of its number, and by the multiple that the mode
-- chooses
pub record IsRounded (old : Unsigned) (r : Rounding UnsignedRoundingMode) (new : Option Unsigned) : Type 0 where
  pub valid : IsValue old
  pub value : rounded old r ≡ new
  pub named : NamesRounded old r new

-- a rounding needs memory only by 25, and only if the number has at least the `held` digits that fit without an
-- allocation, gets one digit more, and stays below the limit
abbrev pub RoundingNeedsMemory : ℕ → Unsigned → Rounding UnsignedRoundingMode → Type 0
RoundingNeedsMemory held old r =
    DigitRoundingNeedsMemory r.increment (size old.number) (rounded_number r.mode (unit_of r) old.number) held

-- the error of a rounding: the result reaches the limit, or memory is needed for one more digit
abbrev pub RoundingFails : ℕ → RoundError → Unsigned → Rounding UnsignedRoundingMode → Type 0
RoundingFails held Limit old r = IsRounded old r None
RoundingFails held Memory old r = RoundingNeedsMemory held old r

-- no rounding reaches the limit: the value shows no digit at the highest magnitude, and by 25 the position is below
-- that magnitude too
abbrev pub IsBelowLimit : Unsigned → ℤ → RoundingIncrement → Type 0
IsBelowLimit v position MultiplesOf25 = (v.hi <ℤ pos 32767) × (position <ℤ pos 32767)
IsBelowLimit v position increment = v.hi <ℤ pos 32767

-- no rounding needs memory: by 25, one more digit fits without an allocation
abbrev pub HasCapacity : ℕ → Unsigned → RoundingIncrement → Type 0
HasCapacity held v MultiplesOf25 = size v.number < held
HasCapacity held v increment = Unit {0}

-- ---- Results.

-- the result of a call in place: on Ok `makes` holds for the new value, and on Err `fails` holds for the error, and the
-- value is unchanged
abbrev pub ChangesInPlace : {A E V : Type 0} → (V → Type 0) → (E → Type 0) → V → V → Result A E → Type 0
ChangesInPlace makes fails old new answer = MatchResult answer (λ _. makes new) (λ e. fails e × (new ≡ old))

-- the same, where `makes` states which value the call makes, or that it makes none
abbrev pub UpdatesInPlace : {A E V : Type 0} → (Option V → Type 0) → V → V → Result A E → Type 0
UpdatesInPlace makes = ChangesInPlace (λ v. makes (Some v)) (λ _. makes None)

-- the same for a call by value, whose error is the unchanged value
abbrev pub UpdatesByValue : {V : Type 0} → (Option V → Type 0) → V → Result V V → Type 0
UpdatesByValue makes old answer = MatchResult answer (λ v. makes (Some v)) (λ v. makes None × (v ≡ old))

-- the result of a rounding in place: the rounded value; or an error, and the value is unchanged
abbrev pub RoundsInPlace : {A : Type 0} → ℕ → Unsigned → Rounding UnsignedRoundingMode → Unsigned
    → Result A RoundError
    → Type 0
RoundsInPlace held old r = ChangesInPlace (λ v. IsRounded old r (Some v)) (λ e. RoundingFails held e old r) old

-- the result of a rounding by value: the rounded value; or the unchanged value and an error
abbrev pub RoundsByValue : ℕ → Unsigned → Rounding UnsignedRoundingMode → Result Unsigned (Unsigned × RoundError)
    → Type 0
RoundsByValue held old r answer =
    MatchResult answer (λ v. IsRounded old r (Some v)) (λ e. RoundingFails held e.1 old r × (e.0 ≡ old))
