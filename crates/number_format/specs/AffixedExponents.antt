-- Numbers with an exponent between the texts of patterns: which texts are read, and as what.
use Rattle.std.specs.{Prelude.{◌≡◌, ◌≢◌, ℕ, ◌⊎◌, List, IfSome, ℤ, Result, Ok, Err}, List.Contains}
use Rattle.decimal_unsigned.specs.{Unsigned.Unsigned, declared.error.ParseError.{ParseError, TheVariants.Syntax}}
use Rattle.fixed_decimal.specs.{Decimal.Decimal, declared.variations.Sign.Sign}
use Rattle.decimal_format.specs.{Scanning.value_of, declared.reader.alternatives.Alternative.{Alternative}}
use Rattle.locale_data.specs.{Plurals.IsCategoryAt, declared.plurals.PluralRulesId.PluralRulesId}
use Rattle.number_format.specs.{declared.read.{pattern.NumberPattern.NumberPattern, scientific.ExponentForm.ExponentForm}, AffixedTexts.{Reader, between, IsShifted, IsOrElse, IsReadTyped}, NumberText.operands_with, ScientificReading.{ScientificNumeral, IsScientificNumeral, exponent_of, scientific_value, IsValueOrMemory}}

-- the text is that of a number with an exponent, between the texts of the pattern
pub record IsWrittenScientific (r : Reader) (f : ExponentForm) (bytes : List ℕ) (p : NumberPattern)
    (w : ScientificNumeral) : Type 0 where
  pub listed : Contains r.patterns p
  pub body : List ℕ
  pub text : bytes ≡ between p body
  pub numeral : IsScientificNumeral r.symbols f body w

-- the pattern is that of the plural category of a significand with its exponent, by these rules
abbrev pub IsOfExponent : PluralRulesId → Unsigned → ℤ → NumberPattern → Type 0
IsOfExponent rules v e p = IfSome p.category (IsCategoryAt rules (operands_with v e))

-- the text is that of a number with an exponent by the pattern of its own category: `1E3 days`, and not `1E3 day`
abbrev pub IsShownScientific : Reader → ExponentForm → List ℕ → Type 0
IsShownScientific r f bytes =
    (p : NumberPattern) × (w : ScientificNumeral) × IsWrittenScientific r f bytes p w
    × IsOfExponent r.rules (value_of w.significand) (exponent_of w) p

-- the value with this sign
abbrev pub signed : Sign → Result Decimal ParseError → Result Decimal ParseError
signed sign (Ok v) = Ok (record v { sign = sign })
signed sign (Err e) = Err e

-- the result of reading a text between those of a pattern of any category: the value of its numeral with the sign of
-- the pattern; `Syntax` exactly if it is that of no numeral
pub record IsReadBetween (inline : ℕ) (r : Reader) (f : ExponentForm) (bytes : List ℕ)
    (result : Result Decimal ParseError) : Type 0 where
  pub found : result ≢ Err Syntax → (p : NumberPattern) × (w : ScientificNumeral) × IsWrittenScientific r f bytes p w
  pub value : (p : NumberPattern) (w : ScientificNumeral) → IsWrittenScientific r f bytes p w
      → IsValueOrMemory inline w.significand (signed p.sign (scientific_value w)) result

-- a value that was read, unless the text is that of another category: then `Syntax`
abbrev pub IsOwnExponent : Reader → ExponentForm → List ℕ → Result Decimal ParseError → Result Decimal ParseError
    → Type 0
IsOwnExponent r f bytes (Ok v) result =
    (IsShownScientific r f bytes × (result ≡ Ok v)) ⊎ (¬ IsShownScientific r f bytes × (result ≡ Err Syntax))
IsOwnExponent r f bytes (Err e) result = result ≡ Err e

-- what is read by the pattern of some category, if this is the category of the number
abbrev pub IsReadShownExponent : ℕ → Reader → ExponentForm → List ℕ → Result Decimal ParseError → Type 0
IsReadShownExponent inline r f bytes result =
    (found : Result Decimal ParseError) × IsReadBetween inline r f bytes found × IsOwnExponent r f bytes found result

-- the same, times 10 ^ shift
abbrev pub IsReadWithExponent : ℕ → Reader → ExponentForm → List ℕ → Result Decimal ParseError → Type 0
IsReadWithExponent inline r f bytes = IsShifted r.shift (IsReadShownExponent inline r f bytes)

-- the result of lenient reading: with an exponent exactly, or else without one as people type it
abbrev pub IsTypedWithExponent : ℕ → Reader → ExponentForm → List Alternative → List ℕ → Result Decimal ParseError
    → Type 0
IsTypedWithExponent inline r f all text result =
    (exact : Result Decimal ParseError) × IsReadWithExponent inline r f text exact
    × IsOrElse exact (IsReadTyped inline r all text) result
