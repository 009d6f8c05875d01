-- Conversion of decimals to integers.
use Rattle.std.specs.Prelude.{ℕ, nat_lt, if◌then◌else◌, Result, Ok, Err, ℤ, pos, negsuc}
use Rattle.decimal_unsigned.specs.{declared.error.IntegerError.{IntegerError, TheVariants.OutOfRange}, ToInteger.when_whole}
use Rattle.fixed_decimal.specs.Decimal.{Decimal, signed}

-- an integer that is at least 0 and below a bound; `OutOfRange` for any other
abbrev pub unsigned_in_range : ℕ → ℤ → Result ℕ IntegerError
unsigned_in_range bound (pos n) = if nat_lt n bound then Ok n else Err OutOfRange
unsigned_in_range bound (negsuc n) = Err OutOfRange

-- an integer that is at least minus a bound and below the bound; `OutOfRange` for any other
abbrev pub signed_in_range : ℕ → ℤ → Result ℤ IntegerError
signed_in_range bound (pos n) = if nat_lt n bound then Ok (pos n) else Err OutOfRange
signed_in_range bound (negsuc n) = if nat_lt n bound then Ok (negsuc n) else Err OutOfRange

-- the integer that a decimal is, from 0 to below a bound; `NotWhole` if a fraction digit is not 0, else `OutOfRange`
abbrev pub as_unsigned : ℕ → Decimal → Result ℕ IntegerError
as_unsigned bound v = when_whole v.absolute.number (λ n. unsigned_in_range bound (signed v.sign n))

-- the same from minus a bound to below the bound: -128 is in range for the bound 128
abbrev pub as_signed : ℕ → Decimal → Result ℤ IntegerError
as_signed bound v = when_whole v.absolute.number (λ n. signed_in_range bound (signed v.sign n))
