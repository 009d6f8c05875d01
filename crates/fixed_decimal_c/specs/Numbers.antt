-- What one learns of a decimal as a number.
use Rattle.std.specs.{Prelude.{◌≡◌, ℕ, ◌^◌, ℤ, pos, negsuc, ◌⊎◌, ◌↔◌, List, Bool, true, false, IsTrue, Result, Ok, Err, IsOkAnd}, Ordering.int_cmp, declared.cmp.Ordering.{Ordering, TheVariants.{Less, Equal, Greater}}}
use Rattle.decimal_unsigned.specs.{declared.{decimal.TheConstants.INLINE_DIGITS, error.{ParseError.ParseError, IntegerError.IntegerError}}, ParseResult.ParseFails}
use Rattle.decimal_unsigned.specs.declared.error.IntegerError.TheVariants as integer
use Rattle.fixed_decimal.specs.{declared.variations.Sign.Sign, Decimal.{Decimal, signed_number}, DecimalText.{read_decimal, IsLong}, ToInteger.{as_signed, as_unsigned}}
use Rattle.fixed_decimal.specs.declared.variations.Sign.TheVariants as sign
use Rattle.fixed_decimal_c.specs.{declared.error.FdError.{FdError, TheVariants.{NotWhole, OutOfRange}}, Errors.error_of_parsing}

-- parsing the text with this number fails
abbrev pub ParsingFails : FdError → List ℕ → ℕ → Type 0
ParsingFails error text at =
    (e : ParseError) × (error ≡ error_of_parsing e at)
    × ParseFails (IsOkAnd (read_decimal text) (IsLong INLINE_DIGITS)) e (read_decimal text)

abbrev pub order_code : Ordering → ℤ
order_code Less = negsuc 0
order_code Equal = pos 0
order_code Greater = pos 1

-- the order of the numbers of two texts
abbrev pub Compares : Result ℤ FdError → List ℕ → List ℕ → Type 0
Compares (Ok n) left right =
    IsOkAnd (read_decimal left) (λ v. IsOkAnd (read_decimal right)
    (λ w. n ≡ order_code (int_cmp (signed_number v) (signed_number w))))
Compares (Err error) left right = ParsingFails error left 0 ⊎ ParsingFails error right 1

abbrev pub bool_code : Bool → ℤ
bool_code false = pos 0
bool_code true = pos 1

-- whether two texts write the same value
abbrev pub Equates : Result ℤ FdError → List ℕ → List ℕ → Type 0
Equates (Ok n) left right =
    IsOkAnd (read_decimal left) (λ v. IsOkAnd (read_decimal right)
    (λ w. (b : Bool) × (n ≡ bool_code b) × (IsTrue b ↔ (v ≡ w))))
Equates (Err error) left right = ParsingFails error left 0 ⊎ ParsingFails error right 1

abbrev pub sign_number : Sign → ℤ
sign_number sign.Negative = negsuc 0
sign_number sign.None = pos 0
sign_number sign.Positive = pos 1

-- the sign of a text
abbrev pub HasSign : Result ℤ FdError → List ℕ → Type 0
HasSign (Ok n) text = IsOkAnd (read_decimal text) (λ v. n ≡ sign_number v.sign)
HasSign (Err error) text = ParsingFails error text 0

abbrev pub error_of_integer : IntegerError → FdError
error_of_integer integer.NotWhole = NotWhole
error_of_integer integer.OutOfRange = OutOfRange

-- a conversion of the decimal fails
abbrev pub ConversionFails : {A : Type 0} → FdError → (Decimal → Result A IntegerError) → List ℕ → Type 0
ConversionFails error convert text =
    IsOkAnd (read_decimal text) (λ v. (e : IntegerError) × (error ≡ error_of_integer e) × (convert v ≡ Err e))

-- the integer of a text
abbrev pub HasI64 : Result ℤ FdError → List ℕ → Type 0
HasI64 (Ok n) text = IsOkAnd (read_decimal text) (λ v. as_signed (2 ^ 63) v ≡ Ok n)
HasI64 (Err error) text = ConversionFails error (as_signed (2 ^ 63)) text ⊎ ParsingFails error text 0

abbrev pub HasU64 : Result ℕ FdError → List ℕ → Type 0
HasU64 (Ok n) text = IsOkAnd (read_decimal text) (λ v. as_unsigned (2 ^ 64) v ≡ Ok n)
HasU64 (Err error) text = ConversionFails error (as_unsigned (2 ^ 64)) text ⊎ ParsingFails error text 0
