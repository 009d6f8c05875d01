-- An amount payable in coins.
use Rattle.std.specs.{Prelude.{◌≡◌, ℕ, ◌*◌, negsuc}, Int.int_max}
use Rattle.decimal_digits.specs.{Number.{weight, first}, Rounding.Named, declared.rounding.UnsignedRoundingMode.TheVariants.HalfEven}
use Rattle.decimal_unsigned.specs.{Unsigned.{Unsigned, integer_value}, Edits.multiplied}

-- the value is the multiple of five cents nearest to the hundredths of cents, ties to the even factor; it has two
-- fraction digits, and the integer digits of the exact amount, or more if its own first digit is higher; negsuc 1 is
-- -2, the magnitude of a cent, and negsuc 3 is -4
pub record IsCash (hundredths : ℕ) (v : Unsigned) : Type 0 where
  pub nearest : Named HalfEven (5 * weight (negsuc 1)) (hundredths * weight (negsuc 3)) v.number
  pub decimals : v.lo ≡ negsuc 1
  pub front : v.hi ≡ int_max (multiplied (integer_value hundredths) (negsuc 3)).hi (first v.number)
