-- Integers: decimals without fraction digits.
use Rattle.std.specs.Prelude.{◌≡◌, ℕ, if◌then◌else◌, List, Result, Ok, Err, MatchResult, pos, int_lt, ◌<ℤ◌}
use Rattle.decimal_unsigned.specs.{Grammar.Literal, Reading.{ReadError, syntax, limit, value_of}, declared.error.LimitError.LimitError}
use Rattle.fixed_decimal.specs.{declared.variations.Sign.Sign, Decimal.Decimal, DecimalText.{Grammar, read_decimal, with_sign, and_then}}

-- a decimal without fraction digits; `limit` for any other, as for `5.0`
abbrev pub integer_or_limit : Decimal → Result Decimal ReadError
integer_or_limit v = if int_lt v.absolute.lo (pos 0) then Err limit else Ok v

-- the integer that a text writes, or an error: first that of the decimal, then `limit` for fraction digits
abbrev pub read_integer : List ℕ → Result Decimal ReadError
read_integer bytes = and_then (read_decimal bytes) integer_or_limit

-- a text of the grammar reads as the value of its parts, or as `limit` if that has fraction digits; any other text as
-- `syntax`
pub record ReadsInteger (bytes : List ℕ) (reading : Result Decimal ReadError) : Type 0 where
  pub found : (sign : Sign) (w : Literal) → Grammar bytes sign w →
      reading ≡ and_then (with_sign sign (value_of w)) integer_or_limit
  pub none : ((sign : Sign) (w : Literal) → ¬ Grammar bytes sign w) → reading ≡ Err syntax

-- a decimal without fraction digits is converted to itself; the conversion of any other fails
abbrev pub IsConverted : Decimal → Result Decimal LimitError → Type 0
IsConverted v result = MatchResult result (λ i. (i ≡ v) × (v.absolute.lo ≡ pos 0)) (λ _. v.absolute.lo <ℤ pos 0)
