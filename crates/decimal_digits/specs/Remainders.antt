-- Private: used only in the contracts of private functions.
-- Remainders, and how a number is rounded by them.
use Rattle.std.specs.Prelude.{◌≡◌, ℕ, ◌+◌, ◌-◌, ◌*◌, ◌%◌, ◌^◌, ◌<◌, ◌≤◌, Bool, true, false, List, length, take, slice_index}
use Rattle.decimal_digits.specs.declared.rounding.UnsignedRoundingMode.{UnsignedRoundingMode}
use Rattle.decimal_digits.specs.declared.rounding.UnsignedRoundingMode.TheVariants.{Expand, Trunc, HalfExpand, HalfTrunc, HalfEven}
use Rattle.decimal_digits.specs.declared.rounding.remainder.Remainder.{Remainder}
use Rattle.decimal_digits.specs.declared.rounding.remainder.Remainder.TheVariants.{Zero, BelowHalf, Half, AboveHalf}
use Rattle.decimal_digits.specs.Digits.{number_at}
use Rattle.decimal_digits.specs.Rounding.{step_of, rounded_number}
use Rattle.decimal_digits.specs.declared.rounding.RoundError.{RoundError}
use Rattle.decimal_digits.specs.declared.rounding.RoundError.TheVariants.{Limit, Memory}
use Rattle.decimal_digits.specs.declared.rounding.RoundingIncrement.{RoundingIncrement}
use Rattle.decimal_digits.specs.declared.rounding.RoundingIncrement.TheVariants.{MultiplesOf25}

-- r is 0, less than half, half, or more than half of the unit u
abbrev pub RemainderIs : Remainder → ℕ → ℕ → Type 0
RemainderIs Zero r u = r ≡ 0
RemainderIs BelowHalf r u = (0 < r) × (2 * r < u)
RemainderIs Half r u = 2 * r ≡ u
RemainderIs AboveHalf r u = (u < 2 * r) × (r < u)

-- whether a mode rounds up, by the remainder and by whether the quotient is odd
abbrev pub rounds_up_of : UnsignedRoundingMode → Remainder → Bool → Bool
rounds_up_of mode Zero odd = false
rounds_up_of Expand left odd = true
rounds_up_of Trunc left odd = false
rounds_up_of mode BelowHalf odd = false
rounds_up_of mode AboveHalf odd = true
rounds_up_of HalfExpand Half odd = true
rounds_up_of HalfTrunc Half odd = false
rounds_up_of HalfEven Half odd = odd

-- k units with this remainder below them are rounded to m units, for every unit
abbrev pub RoundsTo : UnsignedRoundingMode → ℕ → Remainder → ℕ → ℕ → Type 0
RoundsTo mode step remainder k m =
    (r unit : ℕ) → 0 < unit → RemainderIs remainder r unit → rounded_number mode (step * unit) (k * unit + r) ≡ m * unit

-- the number that the first k digits write, where zeros follow the list: 250 of 2 and 5 for k = 3
abbrev pub leading : ℕ → List ℕ → ℕ
leading k digits = number_at k (take k digits)

-- n is k units and a remainder of this kind
abbrev pub SplitsAs : ℕ → ℕ → ℕ → Remainder → Type 0
SplitsAs n unit k remainder = (r : ℕ) × (n ≡ k * unit + r) × RemainderIs remainder r unit

-- the remainder after the first k digits, by the first digit of it; the last digit is not 0
abbrev pub RemainderByDigit : Remainder → ℕ → List ℕ → Type 0
RemainderByDigit Zero k digits = length digits ≤ k
RemainderByDigit BelowHalf k digits = (k < length digits) × (slice_index digits k ≤ 4)
RemainderByDigit Half k digits = (k + 1 ≡ length digits) × (slice_index digits k ≡ 5)
RemainderByDigit AboveHalf k digits =
    (k < length digits) × (5 ≤ slice_index digits k) × (slice_index digits k ≡ 5 → k + 1 < length digits)

-- m has n digits, the last of which is not 0
pub record HasDigits (n m : ℕ) : Type 0 where
  pub most : m < 10 ^ n
  pub least : 10 ^ (n - 1) ≤ m
  pub ends : 0 < m % 10

-- the error of rounding the number of the first `keep` digits: the result has more than `max_places` digits; or memory
-- is needed, which is only by 25, for a last digit that follows the list, which has at least the `fit` digits that fit
-- without an allocation
abbrev pub RoundLeadingFails :
    RoundError → UnsignedRoundingMode → RoundingIncrement → ℕ → ℕ → ℕ → List ℕ → Remainder → Type 0
RoundLeadingFails Limit mode increment fit max_places keep digits remainder =
    (m : ℕ) × (10 ^ max_places ≤ m) × RoundsTo mode (step_of increment) remainder (leading keep digits) m
RoundLeadingFails Memory mode increment fit max_places keep digits remainder =
    (increment ≡ MultiplesOf25) × (fit ≤ length digits) × (keep ≡ length digits + 1)
    × ((m : ℕ) × HasDigits keep m × RoundsTo mode (step_of increment) remainder (leading keep digits) m)
