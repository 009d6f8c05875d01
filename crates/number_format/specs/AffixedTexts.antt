-- Decimals between the texts of patterns, and what a reader of these returns.
use Rattle.std.specs.{Prelude.{◌≡◌, ◌≢◌, ℕ, ◌⊎◌, List, ◌++◌, length, Option, IfSome, ℤ, Result, Ok, Err, ok_or}, List.Contains}
use Rattle.decimal_unsigned.specs.{Edits.multiplied_pow10, Unsigned.Unsigned, declared.error.ParseError.{ParseError, TheVariants.{Limit, Syntax}}}
use Rattle.fixed_decimal.specs.Decimal.{Decimal, with_absolute}
use Rattle.plural_rules.specs.{Operands.plain, declared.rules.PluralCategory.PluralCategory}
use Rattle.locale_data.specs.{Plurals.IsCategoryAt, declared.plurals.PluralRulesId.PluralRulesId}
use Rattle.decimal_format.specs.{Alternatives.{IsNumeralOfFirst, IsWrittenOfFirst}, Formatted.absolute_text, Lenient.normalized, Readable.{BeginsWithDigit, EndsWithDigit}, Reading.{Numeral, AreDigits, IsRead, absolute_numeral_text, separated_by}, Symbols.{Symbols, Affixes}, declared.{grouping.GroupingStrategy.GroupingStrategy, reader.alternatives.Alternative.Alternative}}
use Rattle.number_format.specs.declared.read.{pattern.NumberPattern.NumberPattern, pattern_name.PatternName.PatternName}

-- ---- Patterns.

-- no text is both prefixes, each before a text that begins with a digit
abbrev pub ArePrefixesApart : Symbols → List ℕ → List ℕ → Type 0
ArePrefixesApart s p q =
    (a b : List ℕ) → BeginsWithDigit s a → BeginsWithDigit s b → p ++ a ≢ q ++ b

-- no text is both suffixes, each after a text that ends with a digit
abbrev pub AreSuffixesApart : Symbols → List ℕ → List ℕ → Type 0
AreSuffixesApart s p q =
    (a b : List ℕ) → EndsWithDigit s a → EndsWithDigit s b → a ++ p ≢ b ++ q

-- the prefixes are apart, or the suffixes
abbrev pub ArePairApart : Symbols → Affixes → Affixes → Type 0
ArePairApart s a b = ArePrefixesApart s a.prefix b.prefix ⊎ AreSuffixesApart s a.suffix b.suffix

-- two patterns have the same texts, show the same sign and stand for the same power of ten, as `{0} fish` of `one` and
-- `other`
abbrev pub AreSame : NumberPattern → NumberPattern → Type 0
AreSame p q = (p.affixes ≡ q.affixes) × (p.sign ≡ q.sign) × (p.exponent ≡ q.exponent)

-- no text is around numbers by both patterns, unless they are the same
abbrev pub AreToldApart : Symbols → NumberPattern → NumberPattern → Type 0
AreToldApart s p q = AreSame p q ⊎ ArePairApart s p.affixes q.affixes

-- a text is around a number by one pattern, which names the sign: each two are told apart
pub record AreNamed (s : Symbols) (patterns : List NumberPattern) : Type 0 where
  pub pair : (p q : NumberPattern) → Contains patterns p → Contains patterns q → AreToldApart s p q

-- what the texts of a pattern say of a number
abbrev pub name_of : NumberPattern → PatternName
name_of p = record { category = p.category; sign = p.sign; exponent = p.exponent }

-- the pattern and one of these are not told apart, and have these names
abbrev pub ClashesWith : Symbols → NumberPattern → (NumberPattern → Type 0) → PatternName × PatternName → Type 0
ClashesWith s p Is names =
    (q : NumberPattern) × Is q × (names ≡ (name_of p, name_of q)) × ¬ AreToldApart s p q

-- two of these patterns are not told apart, and have these names
abbrev pub HasClash : Symbols → (NumberPattern → Type 0) → PatternName × PatternName → Type 0
HasClash s Is names = (p : NumberPattern) × Is p × ClashesWith s p Is names

-- numbers of the category may be between the texts of the pattern; without a category all numbers
abbrev pub Allows : Option PluralCategory → NumberPattern → Type 0
Allows category p = IfSome category (λ c. IfSome p.category (λ own. own ≡ c))

-- the pattern is that of the plural category of this number, by these rules
abbrev pub IsOfCategory : PluralRulesId → Unsigned → NumberPattern → Type 0
IsOfCategory rules v p = IfSome p.category (IsCategoryAt rules (plain v))

-- ---- Texts.

-- what texts are read with: symbols, patterns, the rules by which a number has its plural category, and the power of
-- ten by which the number shown is multiplied
pub record Reader : Type 0 where
  pub symbols : Symbols
  pub patterns : List NumberPattern
  pub rules : PluralRulesId
  pub shift : ℤ

-- a text between the texts of a pattern
abbrev pub between : NumberPattern → List ℕ → List ℕ
between p text = p.affixes.prefix ++ (text ++ p.affixes.suffix)

-- the text of a decimal between those of a pattern
abbrev pub text_with : Symbols → NumberPattern → GroupingStrategy → Decimal → List ℕ
text_with s p strategy v = between p (absolute_text s strategy v.absolute)

-- the text is that of the decimal by this pattern, which shows its sign, and some strategy
pub record IsWrittenBy (r : Reader) (text : List ℕ) (v : Decimal) (p : NumberPattern) : Type 0 where
  pub listed : Contains r.patterns p
  pub sign : p.sign ≡ v.sign
  pub strategy : GroupingStrategy
  pub is : text ≡ text_with r.symbols p strategy v

-- the text is that of the decimal by the pattern of some category
abbrev pub IsWritten : Reader → List ℕ → Decimal → Type 0
IsWritten r text v = (p : NumberPattern) × IsWrittenBy r text v p

-- the text is that of the decimal by the pattern of its own category: `1 day`, and not `1 days`
abbrev pub IsShown : Reader → List ℕ → Decimal → Type 0
IsShown r text v = (p : NumberPattern) × IsWrittenBy r text v p × IsOfCategory r.rules v.absolute p

-- the text is that of these digits, of any number, by this pattern and some strategy
pub record IsNumeralBy (r : Reader) (text : List ℕ) (w : Numeral) (p : NumberPattern) : Type 0 where
  pub listed : Contains r.patterns p
  pub sign : p.sign ≡ w.sign
  pub digits : AreDigits w
  pub strategy : GroupingStrategy
  pub is : text ≡ between p (absolute_numeral_text r.symbols (separated_by r.symbols strategy (length w.whole)) w)

-- the text is that of these digits by the pattern of some category
abbrev pub IsNumeral : Reader → List ℕ → Numeral → Type 0
IsNumeral r text w = (p : NumberPattern) × IsNumeralBy r text w p

-- the text is this one between the texts of the pattern, and this one begins and ends with a digit
pub record IsBetween (s : Symbols) (text : List ℕ) (p : NumberPattern) (middle : List ℕ) : Type 0 where
  pub begins : BeginsWithDigit s middle
  pub ends : EndsWithDigit s middle
  pub is : text ≡ between p middle

-- one of these patterns, which allows the category, has the text around this one
pub record IsSplit (s : Symbols) (patterns : List NumberPattern) (category : Option PluralCategory) (text : List ℕ)
    (p : NumberPattern) (middle : List ℕ) : Type 0 where
  pub listed : Contains patterns p
  pub allowed : Allows category p
  pub between : IsBetween s text p middle

-- ---- Reading.

-- what is read, times 10 ^ shift, as 0.125 of 12.5 and -2; `Limit` beyond the limits
abbrev pub shifted : ℤ → Result Decimal ParseError → Result Decimal ParseError
shifted shift (Ok v) = ok_or (with_absolute v (multiplied_pow10 v.absolute shift)) Limit
shifted shift (Err e) = Err e

-- the result of a reading, times 10 ^ shift
abbrev pub IsShifted : ℤ → (Result Decimal ParseError → Type 0) → Result Decimal ParseError → Type 0
IsShifted shift is_read result =
    (read : Result Decimal ParseError) × is_read read × (result ≡ shifted shift read)

-- a decimal that was read, unless the text is that of another category: then `Syntax`
abbrev pub IsOwn : Reader → List ℕ → Result Decimal ParseError → Result Decimal ParseError → Type 0
IsOwn r text (Ok v) result =
    (IsShown r text v × (result ≡ Ok v)) ⊎ (¬ IsShown r text v × (result ≡ Err Syntax))
IsOwn r text (Err e) result = result ≡ Err e

-- what is read by the pattern of some category, if this is the category of the decimal
abbrev pub IsReadShown : ℕ → Reader → List ℕ → Result Decimal ParseError → Type 0
IsReadShown inline r text result =
    (found : Result Decimal ParseError) × IsRead inline (IsNumeral r text) (IsWritten r text) found
    × IsOwn r text found result

-- the result of reading a text exactly
abbrev pub IsReadExactly : ℕ → Reader → List ℕ → Result Decimal ParseError → Type 0
IsReadExactly inline r text = IsShifted r.shift (IsReadShown inline r text)

-- what was read, or else, if this is `Syntax`, a second reading
abbrev pub IsOrElse : Result Decimal ParseError → (Result Decimal ParseError → Type 0) → Result Decimal ParseError
    → Type 0
IsOrElse (Err Syntax) is_read result = is_read result
IsOrElse first is_read result = result ≡ first

-- what is read exactly, or else by the first alternative with a numeral
abbrev pub IsReadWith : ℕ → Reader → List Alternative → List ℕ → Result Decimal ParseError → Type 0
IsReadWith inline r all text result =
    (exact : Result Decimal ParseError) × IsReadShown inline r text exact
    × IsOrElse exact (IsRead inline (IsNumeralOfFirst r.symbols (normalized r.symbols text) all)
    (IsWrittenOfFirst r.symbols (normalized r.symbols text) all)) result

-- the result of reading a text as people type it, with these alternatives
abbrev pub IsReadTyped : ℕ → Reader → List Alternative → List ℕ → Result Decimal ParseError → Type 0
IsReadTyped inline r all text = IsShifted r.shift (IsReadWith inline r all text)
