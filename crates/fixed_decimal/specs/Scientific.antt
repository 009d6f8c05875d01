-- Scientific notation: a decimal times 10 to the power of an integer, as `1.20e-03`.
use Rattle.std.specs.{Prelude.{◌≡◌, ℕ, ◌⊎◌, if◌then◌else◌, false, List, ◌∷◌, ◌++◌, Option, Some, None, Result, Ok, Err}, List.list_any}
use Rattle.decimal_digits.specs.Ascii.{lowercase_e}
use Rattle.decimal_unsigned.specs.Reading.{ReadError, syntax, is_letter}
use Rattle.fixed_decimal.specs.{Decimal.Decimal, DecimalText.{decimal_text, read_decimal, IsLong, and_then}, Integer.read_integer, Split.split_once}

-- a significand, and an exponent, which has no fraction digits
pub record Scientific : Type 0 where
  pub significand : Decimal
  pub exponent : Decimal

-- the value of two parts
abbrev pub scientific : Decimal → Decimal → Scientific
scientific significand exponent = record { significand = significand; exponent = exponent }

-- the text of the significand, e and the text of the exponent
abbrev pub scientific_text : Scientific → List ℕ
scientific_text v = decimal_text v.significand ++ lowercase_e ∷ decimal_text v.exponent

-- a split whose parts have no e and no E; a text without a split is rejected
abbrev pub plain_parts : Option (List ℕ × List ℕ) → Result (List ℕ × List ℕ) ReadError
plain_parts None = Err syntax
plain_parts (Some parts) =
    if list_any is_letter parts.0 then Err syntax else if list_any is_letter parts.1 then Err syntax else Ok parts

-- the split of a text with exactly one e and without E: the texts before and after the e
unfoldable pub split_at_e : List ℕ → Result (List ℕ × List ℕ) ReadError
split_at_e bytes = plain_parts (split_once lowercase_e bytes)

-- the value of two texts, or an error: first that of the significand, then that of the exponent
abbrev pub read_fields : List ℕ × List ℕ → Result Scientific ReadError
read_fields parts =
    and_then (read_decimal parts.0) (λ significand.
    and_then (read_integer parts.1) (λ exponent. Ok (scientific significand exponent)))

-- the value that a text writes, or an error: first that of the split, then those of the parts
abbrev pub read_scientific : List ℕ → Result Scientific ReadError
read_scientific bytes = and_then (split_at_e bytes) read_fields

-- the text is the significand, e and the exponent; neither part has an e or E
pub record IsSplitAtE (bytes significand exponent : List ℕ) : Type 0 where
  pub is : bytes ≡ significand ++ lowercase_e ∷ exponent
  pub plain_significand : list_any is_letter significand ≡ false
  pub plain_exponent : list_any is_letter exponent ≡ false

-- a text with such a split reads as its parts; any other text reads as `syntax`
pub record ReadsScientific (bytes : List ℕ) (reading : Result Scientific ReadError) : Type 0 where
  pub split : (significand exponent : List ℕ) → IsSplitAtE bytes significand exponent →
      reading ≡ read_fields (significand, exponent)
  pub unsplit : ((significand exponent : List ℕ) → ¬ IsSplitAtE bytes significand exponent) → reading ≡ Err syntax

-- a part has more than `held` digits, the number that a store holds without an allocation
abbrev pub HasLongField : ℕ → Scientific → Type 0
HasLongField held v = IsLong held v.significand ⊎ IsLong held v.exponent
