-- Compact notation: a decimal times 10 to the power of an exponent, as `1.20c6`.
use Rattle.std.specs.{Prelude.{◌≡◌, ℕ, ◌==◌, nat_lt, if◌then◌else◌, true, false, List, [], ◌∷◌, ◌++◌, Option, Some, None, Result, Ok, Err}, Fmt.decimal, List.list_any}
use Rattle.decimal_digits.specs.Ascii.{digit_zero, lowercase_c}
use Rattle.decimal_unsigned.specs.Reading.{ReadError, syntax, limit, is_letter, numeral_of}
use Rattle.fixed_decimal.specs.{Letters.is_c, Decimal.Decimal, Split.split_once, DecimalText.{decimal_text, read_decimal, IsLong, and_then}}

-- a significand, and an exponent, which is at most 255
pub record Compact : Type 0 where
  pub significand : Decimal
  pub exponent : ℕ

-- the value of two parts
abbrev pub compact : Decimal → ℕ → Compact
compact significand exponent = record { significand = significand; exponent = exponent }

-- the text of an exponent: c and its digits; no text for 0
abbrev pub exponent_text : ℕ → List ℕ
exponent_text exponent = if exponent == 0 then [] else lowercase_c ∷ decimal exponent

-- the text of the significand, followed by that of the exponent
abbrev pub compact_text : Compact → List ℕ
compact_text v = decimal_text v.significand ++ exponent_text v.exponent

-- a split, or the whole text without a second part
abbrev pub parts_or_whole : List ℕ → Option (List ℕ × List ℕ) → List ℕ × Option (List ℕ)
parts_or_whole bytes None = (bytes, None)
parts_or_whole bytes (Some parts) = (parts.0, Some parts.1)

-- the split of a text without e and E: the text before its first c, and the text after that c if there is one
unfoldable pub split_at_c : List ℕ → Result (List ℕ × Option (List ℕ)) ReadError
split_at_c bytes = if list_any is_letter bytes then Err syntax else Ok
    (parts_or_whole bytes (split_once lowercase_c bytes))

-- a number of at most 255; `limit` for a greater one, and `syntax` for none
abbrev pub byte_or_limit : Option ℕ → Result ℕ ReadError
byte_or_limit None = Err syntax
byte_or_limit (Some n) = if nat_lt 255 n then Err limit else Ok n

-- the number from 1 to 255 that digits write, of which the first is not 0
unfoldable pub exponent_number_of : List ℕ → Result ℕ ReadError
exponent_number_of [] = Err syntax
exponent_number_of (c ∷ rest) = if c == digit_zero then Err syntax else byte_or_limit (numeral_of (c ∷ rest))

-- the exponent that the text after the c writes; 0 if there is no c
abbrev pub read_exponent : Option (List ℕ) → Result ℕ ReadError
read_exponent None = Ok 0
read_exponent (Some bytes) = exponent_number_of bytes

-- the value of two texts, or an error: first that of the significand, then that of the exponent
abbrev pub read_fields : List ℕ × Option (List ℕ) → Result Compact ReadError
read_fields parts =
    and_then (read_decimal parts.0) (λ significand.
    and_then (read_exponent parts.1) (λ exponent. Ok (compact significand exponent)))

-- the value that a text writes, or an error: first that of the split, then those of the parts
abbrev pub read_compact : List ℕ → Result Compact ReadError
read_compact bytes = and_then (split_at_c bytes) read_fields

-- c and the text of an exponent, if there is one
abbrev pub with_c : Option (List ℕ) → List ℕ
with_c None = []
with_c (Some suffix) = lowercase_c ∷ suffix

-- the text is the significand, followed by c and the exponent if there is one; the significand has no c
pub record IsSplitAtC (bytes significand : List ℕ) (exponent : Option (List ℕ)) : Type 0 where
  pub is : bytes ≡ significand ++ with_c exponent
  pub first : list_any is_c significand ≡ false

-- a text with an e or E reads as `syntax`; any other text reads as its parts
pub record ReadsCompact (bytes : List ℕ) (reading : Result Compact ReadError) : Type 0 where
  pub fails_with : list_any is_letter bytes ≡ true → reading ≡ Err syntax
  pub split : list_any is_letter bytes ≡ false → (significand : List ℕ) (exponent : Option (List ℕ)) →
      IsSplitAtC bytes significand exponent → reading ≡ read_fields (significand, exponent)

-- the significand has more than `held` digits, the number that a store holds without an allocation
abbrev pub HasLongSignificand : ℕ → Compact → Type 0
HasLongSignificand held v = IsLong held v.significand
