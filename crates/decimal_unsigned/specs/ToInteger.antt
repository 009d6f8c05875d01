-- The integer of a number.
use Rattle.std.specs.Prelude.{ℕ, ◌/◌, ◌%◌, ◌==◌, nat_lt, if◌then◌else◌, Result, Ok, Err, pos}
use Rattle.decimal_digits.specs.Number.{weight}
use Rattle.decimal_unsigned.specs.declared.error.IntegerError.{IntegerError}
use Rattle.decimal_unsigned.specs.declared.error.IntegerError.TheVariants.{NotWhole, OutOfRange}

-- f of the integer, or `NotWhole` if a fraction digit is not 0
abbrev pub when_whole : {A : Type 0} → ℕ → (ℕ → Result A IntegerError) → Result A IntegerError
when_whole number f = if number % weight (pos 0) == 0 then f (number / weight (pos 0)) else Err NotWhole

-- n if it is below the bound, else `OutOfRange`
abbrev pub in_range : ℕ → ℕ → Result ℕ IntegerError
in_range bound n = if nat_lt n bound then Ok n else Err OutOfRange

-- the integer, if it is below the bound; `NotWhole` comes before `OutOfRange`
abbrev pub as_integer : ℕ → ℕ → Result ℕ IntegerError
as_integer bound number = when_whole number (in_range bound)
