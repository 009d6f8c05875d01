-- The printed price.
use Rattle.std.specs.Prelude.{ℕ, ◌*◌, Option, option_and_then, negsuc}
use Rattle.decimal_digits.specs.declared.rounding.UnsignedRoundingMode.TheVariants.{HalfEven}
use Rattle.decimal_unsigned.specs.{Unsigned.{Unsigned, integer_value}, Edits.multiplied_pow10, Rounded.{rounding_by_1, rounded}}

-- a percentage of a number of cents, in units of money: the product over 10^4; negsuc 3 is -4
abbrev pub exact_price : ℕ → ℕ → Option Unsigned
exact_price cents percent = multiplied_pow10 (integer_value (cents * percent)) (negsuc 3)

-- the same, rounded half-even to a cent; negsuc 1 is -2
abbrev pub price : ℕ → ℕ → Option Unsigned
price cents percent = option_and_then (λ v. rounded v (rounding_by_1 (negsuc 1) HalfEven)) (exact_price cents percent)
