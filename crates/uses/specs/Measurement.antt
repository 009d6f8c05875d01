-- A measured value with a limited number of fraction digits.
use Rattle.std.specs.{Prelude.{◌≡◌, ◌*◌, ◌≤◌, if◌then◌else◌, Option, Some, ℤ, int_lt, ◌≤ℤ◌}, Int.abs_diff}
use Rattle.decimal_digits.specs.{Number.weight, declared.rounding.UnsignedRoundingMode.TheVariants.HalfEven}
use Rattle.decimal_unsigned.specs.Rounded.{rounding_by_1}
use Rattle.fixed_decimal.specs.{Decimal.Decimal, SignedRounding.rounded, declared.rounding.SignedRoundingMode.TheVariants.Unsigned}

-- rounded half-even at a position if digits are shown below it, and unchanged otherwise
abbrev pub shortened : Decimal → ℤ → Option Decimal
shortened v position =
    if int_lt v.absolute.lo position then rounded v (rounding_by_1 position (Unsigned HalfEven)) else Some v

-- no digit is shown below the position, the number differs from the measured one by at most half a unit there, and the
-- sign is the same
pub record IsNear (measured : Decimal) (position : ℤ) (v : Decimal) : Type 0 where
  pub shown : position ≤ℤ v.absolute.lo
  pub near : 2 * abs_diff measured.absolute.number v.absolute.number ≤ weight position
  pub sign : v.sign ≡ measured.sign
