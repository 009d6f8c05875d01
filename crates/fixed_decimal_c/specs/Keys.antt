-- Numbers of decimals as integers.
use Rattle.std.specs.{Prelude.{◌≡◌, ℕ, ◌^◌, ℤ, pos, negsuc, ◌+ℤ◌, ◌*ℤ◌, List, ◌⊎◌, Result, Ok, Err, IsOkAnd, Option, Some, None}, Ordering.int_cmp}
use Rattle.decimal_digits.specs.Number.{weight}
use Rattle.decimal_unsigned.specs.{Edits.multiplied_pow10, declared.error.IntegerError.{IntegerError, TheVariants.OutOfRange}}
use Rattle.fixed_decimal.specs.{Decimal.{Decimal, signed_number, with_absolute}, DecimalText.read_decimal, ToInteger.as_signed}
use Rattle.fixed_decimal_c.specs.{declared.{error.FdError.FdError, keys.{FdKey.FdKey, FdKeyed.FdKeyed}}, Errors.{status_of, place_of}, Numbers.{ConversionFails, ParsingFails, order_code}}

-- the number of a key, in units of 10 ^ -18
abbrev pub key_units : FdKey → ℤ
key_units key = key.high *ℤ pos (2 ^ 64) +ℤ pos key.low

-- the number of a decimal is this number of units of 10 ^ -18
abbrev pub HasUnits : Decimal → ℤ → Type 0
HasUnits v units = signed_number v ≡ units *ℤ pos (weight (negsuc 17))

-- the integer of 128 bits that a decimal is; none is out of range
abbrev pub integer_of : Option Decimal → Result ℤ IntegerError
integer_of (Some v) = as_signed (2 ^ 127) v
integer_of None = Err OutOfRange

-- the integer of 128 bits that a decimal times 10 ^ 18 is
abbrev pub units_result : Decimal → Result ℤ IntegerError
units_result v = integer_of (with_absolute v (multiplied_pow10 v.absolute (pos 18)))

-- the key of a text
abbrev pub HasKey : Result FdKey FdError → List ℕ → Type 0
HasKey (Ok key) text = IsOkAnd (read_decimal text) (λ v. HasUnits v (key_units key))
HasKey (Err error) text = ConversionFails error units_result text ⊎ ParsingFails error text 0

-- the order of two keys, which is that of all decimals with these numbers
abbrev pub ComparesKeys : Result ℤ FdError → FdKey → FdKey → Type 0
ComparesKeys (Ok n) left right =
    (n ≡ order_code (int_cmp (key_units left) (key_units right)))
    × ((v w : Decimal) → HasUnits v (key_units left) → HasUnits w (key_units right)
    → n ≡ order_code (int_cmp (signed_number v) (signed_number w)))
ComparesKeys (Err error) left right = ⊥

-- an answer that is a key, as C receives it
abbrev pub fd_keyed : Result FdKey FdError → FdKeyed
fd_keyed (Ok key) = record { status = 0; at = 0; key = key }
fd_keyed (Err error) = record { status = status_of error; at = place_of error; key = record { high = pos 0; low = 0 } }

-- C receives an answer of which P holds
abbrev pub EncodesKey : FdKeyed → (Result FdKey FdError → Type 0) → Type 0
EncodesKey r P = (answer : Result FdKey FdError) × (r ≡ fd_keyed answer) × P answer
