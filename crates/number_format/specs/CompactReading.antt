-- Numbers in compact notation: the texts around them, and which are read.
use Rattle.std.specs.{Prelude.{◌≡◌, ◌≢◌, ℕ, zero, suc, ◌<◌, ◌/◌, ◌%◌, ◌+◌, ◌==◌, Bool, true, false, not, ◌&&◌, if◌then◌else◌, ◌⊎◌, List, ◌++◌, Option, None, Some, is_none, IsSomeAnd, Result, Ok, Err, ℤ, pos, ◌+ℤ◌, ◌-ℤ◌}, Int.int_min, List.Contains}
use Rattle.decimal_digits.specs.Number.{first}
use Rattle.decimal_unsigned.specs.{Unsigned.{Unsigned, one_value}, declared.error.ParseError.{ParseError, TheVariants.Syntax}}
use Rattle.fixed_decimal.specs.{Decimal.Decimal, declared.variations.{Sign.Sign, SignDisplay.SignDisplay}}
use Rattle.plural_rules.specs.Operands as operands
use Rattle.plural_rules.specs.declared.rules.PluralCategory.{PluralCategory}
use Rattle.decimal_format.specs.{Formatted.absolute_text, Readable.{BeginsWithDigit, IsReadable}, Reading.IsRead, Symbols.{Symbols, affixes}, declared.grouping.GroupingStrategy.GroupingStrategy}
use Rattle.locale_data.specs.{Compact.{pattern_for, compact_patterns}, Plurals.{IsCategoryAt, HasOneAlone, HoldsAlone}, declared.{compact.CompactStyle.CompactStyle, tables.rows.compact.CompactPattern.CompactPattern}}
use Rattle.number_format.specs.{declared.{format.formatter.NumberFormatter.NumberFormatter, notation.Notation.Notation, read.{compact.keys.CompactKey.CompactKey, pattern.NumberPattern.NumberPattern}}, AffixedTexts.{AreNamed, AreSame, AreToldApart, Reader, between, shifted, IsWritten, IsWrittenBy, IsNumeral, IsShifted, IsOrElse}, NumberText.{around_by, is_negative, outer_by}, PatternTexts.Around, Scaled.{exponent_at, IsOrdered}, TextParts.pieces_text}

-- ---- The texts around numbers.

-- the pattern for 1 itself is chosen, as it is for 1 without a minus sign
abbrev pub is_single : CompactKey → Bool
is_single k = k.is_one && not (is_negative k.sign)

-- what is around the digits, by the magnitude, the category and the sign of a number
abbrev pub inner_at : NumberFormatter → CompactStyle → CompactKey → Around
inner_at f style k =
    around_by f.style k.sign (pattern_for k.category (is_single k) (compact_patterns f.formats style k.magnitude))

-- the pattern of these texts, within what is around the whole text; `K` stands for the power of ten 3
abbrev pub word_pattern : NumberFormatter → CompactStyle → CompactKey → NumberPattern
word_pattern f style k = record {
  affixes = affixes (pieces_text (outer_by f k.whole).prefix ++ pieces_text (inner_at f style k).prefix)
      (pieces_text (inner_at f style k).suffix ++ pieces_text (outer_by f k.whole).suffix);
  sign = k.sign;
  category = None;
  exponent = exponent_at f.notation k.magnitude;
}

-- the number is between the texts, or they are the whole text, as `mille`
abbrev pub has_number_at : NumberFormatter → CompactStyle → CompactKey → Bool
has_number_at f style k = (inner_at f style k).has_number

-- the text of a pattern without the number
abbrev pub whole_text : NumberPattern → List ℕ
whole_text p = p.affixes.prefix ++ p.affixes.suffix

-- no digit is in the text
abbrev pub HasNoDigit : Symbols → List ℕ → Type 0
HasNoDigit s text = (a b : List ℕ) → text ≡ a ++ b → ¬ BeginsWithDigit s b

-- the texts of a key are a whole text, which is that of the pattern
pub record IsWholeText (f : NumberFormatter) (style : CompactStyle) (p : NumberPattern) (k : CompactKey) : Type 0 where
  pub none : has_number_at f style k ≡ false
  pub same : whole_text p ≡ whole_text (word_pattern f style k)

-- if the key has the whole text of the pattern, it has the same sign and power of ten
abbrev pub HasMeaningOf : NumberFormatter → CompactStyle → NumberPattern → CompactKey → Type 0
HasMeaningOf f style p k =
    IsWholeText f style p k → (p.sign ≡ k.sign) × (p.exponent ≡ exponent_at f.notation k.magnitude)

-- the whole text of the pattern has one meaning
abbrev pub HasOneMeaning : NumberFormatter → CompactStyle → NumberPattern → Type 0
HasOneMeaning f style p = (k : CompactKey) → HasMeaningOf f style p k

-- the texts of a key are those of the number 1 alone, by their pattern or by their category
abbrev pub IsForOneAlone : NumberFormatter → CompactKey → Type 0
IsForOneAlone f k = (is_single k ≡ true) ⊎ ((k.category ≡ PluralCategory.One) × HasOneAlone f.rules)

-- a whole text is that of the number 1 alone; it has no digit, and one meaning
pub record IsReadWhole (f : NumberFormatter) (style : CompactStyle) (k : CompactKey) : Type 0 where
  pub one : IsForOneAlone f k
  pub no_digit : HasNoDigit f.style.symbols (whole_text (word_pattern f style k))
  pub meaning : HasOneMeaning f style (word_pattern f style k)

-- the key has the number, or a whole text that is read
abbrev pub HasNumberOr : NumberFormatter → CompactStyle → CompactKey → Type 0
HasNumberOr f style k = has_number_at f style k ≡ false → IsReadWhole f style k

-- each key has the number, or a whole text that is read
abbrev pub HasWordNumbers : NumberFormatter → CompactStyle → Type 0
HasWordNumbers f style = (k : CompactKey) → HasNumberOr f style k

-- the patterns are told apart if both have the number
abbrev pub AreKeysApart : NumberFormatter → CompactStyle → CompactKey → CompactKey → Type 0
AreKeysApart f style k l =
    has_number_at f style k ≡ true → has_number_at f style l ≡ true
    → AreToldApart f.style.symbols (word_pattern f style k) (word_pattern f style l)

-- each two patterns with the number are told apart
abbrev pub AreWordsNamed : NumberFormatter → CompactStyle → Type 0
AreWordsNamed f style = (k l : CompactKey) → AreKeysApart f style k l

-- the pattern is that of a key with the number, or of one without it
pub record IsPatternOf (f : NumberFormatter) (style : CompactStyle) (has_number : Bool) (p : NumberPattern)
    : Type 0 where
  pub key : CompactKey
  pub has : has_number_at f style key ≡ has_number
  pub is : p ≡ word_pattern f style key

-- these are all patterns with the number, or all without it, and no others
pub record AreWordPatterns (f : NumberFormatter) (style : CompactStyle) (has_number : Bool)
    (patterns : List NumberPattern) : Type 0 where
  pub all :
      (k : CompactKey) → has_number_at f style k ≡ has_number → Contains patterns (word_pattern f style k)
  pub only : (p : NumberPattern) → Contains patterns p → IsPatternOf f style has_number p

-- the exponents are those of compact patterns, and ordered: none is above its magnitude or above the next one
abbrev pub HasCompactExponents : Notation → Type 0
HasCompactExponents (Notation.Compact table) = IsOrdered (Notation.Compact table)
HasCompactExponents other = ⊥

-- ---- The number between them.

-- the magnitude of the first digit before the number was divided by a power of ten; 0 of zero
abbrev pub magnitude_by : Unsigned → ℤ → ℤ
magnitude_by v e = if v.number == 0 then pos 0 else int_min (first v.number +ℤ e) (pos 32767)

-- the number is 1, as `1` or `1.0`
abbrev pub is_unit : Unsigned → Bool
is_unit v = operands.i v == 1 && operands.w v == 0

-- no sign is ever written
abbrev pub HidesSigns : NumberFormatter → Type 0
HidesSigns f = f.options.sign_display ≡ SignDisplay.Never

-- the pattern for 1 itself is chosen for 1 and for no other number; without signs the number may be -1 too, for which
-- it is not chosen
abbrev pub ChoosesOne : NumberFormatter → Decimal → Bool → Type 0
ChoosesOne f v one = (one ≡ is_unit v.absolute) ⊎ ((one ≡ false) × HidesSigns f)

-- the number that a category may hold alone: 1 of `one` and 2 of `two`
abbrev pub lone_number : PluralCategory → Option ℕ
lone_number PluralCategory.One = Some 1
lone_number PluralCategory.Two = Some 2
lone_number c = None

-- the category is that of 1 alone, or of 2 alone
abbrev pub IsAlone : NumberFormatter → PluralCategory → Type 0
IsAlone f c = IsSomeAnd (lone_number c) (HoldsAlone f.rules c)

-- the whole number has the category of the significand if it is not divided; else it is at least 10, and may have each
-- category but those of 1 alone and of 2 alone
abbrev pub HasWholeCategory : NumberFormatter → CompactKey → Type 0
HasWholeCategory f k =
    ((exponent_at f.notation k.magnitude ≡ pos 0) × (k.whole ≡ k.category))
    ⊎ ((exponent_at f.notation k.magnitude ≢ pos 0) × ¬ IsAlone f k.whole)

-- the key is one of a significand: its magnitude is that of the number with the power of ten of its pattern, and its
-- category that of the significand
pub record IsOwnKey (f : NumberFormatter) (v : Decimal) (k : CompactKey) : Type 0 where
  pub magnitude : k.magnitude ≡ magnitude_by v.absolute (exponent_at f.notation k.magnitude)
  pub category : IsCategoryAt f.rules (operands.plain v.absolute) k.category
  pub whole : HasWholeCategory f k
  pub one : ChoosesOne f v k.is_one
  pub sign : k.sign ≡ v.sign

-- the pattern has the texts of such a key
pub record IsOwnPattern (f : NumberFormatter) (style : CompactStyle) (v : Decimal) (p : NumberPattern) : Type 0 where
  pub key : CompactKey
  pub own : IsOwnKey f v key
  pub has : has_number_at f style key ≡ true
  pub is : AreSame p (word_pattern f style key)

-- the formatter writes the significand with this text, and the power of ten
pub record IsShownInWords (f : NumberFormatter) (style : CompactStyle) (text : List ℕ) (v : Decimal) (e : ℤ)
    : Type 0 where
  pub key : CompactKey
  pub own : IsOwnKey f v key
  pub has : has_number_at f style key ≡ true
  pub exponent : exponent_at f.notation key.magnitude ≡ e
  pub strategy : GroupingStrategy
  pub is : text ≡ between (word_pattern f style key) (absolute_text f.style.symbols strategy v.absolute)

-- the number 1 with the sign of a key
abbrev pub one_of : CompactKey → Decimal
one_of k = record { sign = k.sign; absolute = one_value }

-- the text is the whole text of a key
pub record IsWholeOf (f : NumberFormatter) (style : CompactStyle) (text : List ℕ) (k : CompactKey) : Type 0 where
  pub none : has_number_at f style k ≡ false
  pub is : text ≡ whole_text (word_pattern f style k)

-- the text is the whole text of no key
abbrev pub IsNoWhole : NumberFormatter → CompactStyle → List ℕ → Type 0
IsNoWhole f style text = (k : CompactKey) → ¬ IsWholeOf f style text k

-- w is what the text says of a significand u: u itself, or 1 without its zeros if the text is a whole one
abbrev pub IsSaid : NumberFormatter → CompactStyle → List ℕ → Decimal → Decimal → Type 0
IsSaid f style text u w =
    (IsNoWhole f style text × (w ≡ u))
    ⊎ ((k : CompactKey) × IsWholeOf f style text k × (is_unit u.absolute ≡ true)
    × (w ≡ record { sign = u.sign; absolute = one_value }))

-- ---- Reading.

-- what reads digits between the texts of patterns
abbrev pub word_reader : NumberFormatter → List NumberPattern → Reader
word_reader f patterns = record {
  symbols = f.style.symbols;
  patterns = patterns;
  rules = f.rules;
  shift = pos 0 -ℤ f.options.scale;
}

-- a significand that was read, times the power of ten; `Syntax` if the formatter writes it with other texts
abbrev pub IsOwnInWords : NumberFormatter → CompactStyle → List ℕ → Result Decimal ParseError
    → Result Decimal ParseError → Type 0
IsOwnInWords f style text (Ok v) result =
    ((e : ℤ) × IsShownInWords f style text v e × (result ≡ shifted e (Ok v)))
    ⊎ (((e : ℤ) → ¬ IsShownInWords f style text v e) × (result ≡ Err Syntax))
IsOwnInWords f style text (Err e) result = result ≡ Err e

-- the same with the texts of any magnitude and category, as `1250K`
abbrev pub IsTimes : Reader → List ℕ → Result Decimal ParseError → Result Decimal ParseError → Type 0
IsTimes r text (Ok v) result = (p : NumberPattern) × IsWrittenBy r text v p × (result ≡ shifted p.exponent (Ok v))
IsTimes r text (Err e) result = result ≡ Err e

-- the result of reading a significand between the texts of all patterns, and what is made of it
abbrev pub IsReadBetween : ℕ → NumberFormatter → CompactStyle → List ℕ
    → (Reader → Result Decimal ParseError → Type 0) → Type 0
IsReadBetween inline f style text P =
    (patterns : List NumberPattern) × (found : Result Decimal ParseError) × AreWordPatterns f style true patterns
    × IsRead inline (IsNumeral (word_reader f patterns) text) (IsWritten (word_reader f patterns) text) found
    × P (word_reader f patterns) found

abbrev pub IsReadByNumber : ℕ → NumberFormatter → CompactStyle → List ℕ → Result Decimal ParseError → Type 0
IsReadByNumber inline f style text result =
    IsReadBetween inline f style text (λ r found. IsOwnInWords f style text found result)

-- the same; a whole text is 1 times its power of ten
abbrev pub IsReadShownInWords : ℕ → NumberFormatter → CompactStyle → List ℕ → Result Decimal ParseError → Type 0
IsReadShownInWords inline f style text result =
    ((k : CompactKey) × IsWholeOf f style text k
    × (result ≡ shifted (exponent_at f.notation k.magnitude) (Ok (one_of k))))
    ⊎ (IsNoWhole f style text × IsReadByNumber inline f style text result)

abbrev pub IsReadInAnyWords : ℕ → NumberFormatter → CompactStyle → List ℕ → Result Decimal ParseError → Type 0
IsReadInAnyWords inline f style text result =
    IsReadBetween inline f style text (λ r found. IsTimes r text found result)

-- the result of reading a text exactly
abbrev pub IsReadInWords : ℕ → NumberFormatter → CompactStyle → List ℕ → Result Decimal ParseError → Type 0
IsReadInWords inline f style text = IsShifted (pos 0 -ℤ f.options.scale) (IsReadShownInWords inline f style text)

-- what is read exactly, or else with the texts of any magnitude and category
abbrev pub IsReadOrAny : ℕ → NumberFormatter → CompactStyle → List ℕ → Result Decimal ParseError → Type 0
IsReadOrAny inline f style text result =
    (exact : Result Decimal ParseError) × IsReadInWords inline f style text exact
    × IsOrElse exact (IsShifted (pos 0 -ℤ f.options.scale) (IsReadInAnyWords inline f style text)) result

-- ---- Private: used only in the contracts of private functions.

abbrev pub category_at : ℕ → PluralCategory
category_at zero = PluralCategory.Other
category_at (suc zero) = PluralCategory.One
category_at (suc (suc zero)) = PluralCategory.Two
category_at (suc (suc (suc zero))) = PluralCategory.Few
category_at (suc (suc (suc (suc zero)))) = PluralCategory.Many
category_at (suc (suc (suc (suc (suc other))))) = PluralCategory.Zero

abbrev pub sign_at : ℕ → Sign
sign_at zero = Sign.None
sign_at (suc zero) = Sign.Negative
sign_at (suc (suc other)) = Sign.Positive

-- the keys in an order: by magnitude, from 2 to 19, category, ..
abbrev pub key_at : ℕ → CompactKey
key_at i = record {
  magnitude = pos (i / 216 + 2);
  category = category_at (i % 216 / 36);
  is_one = i % 36 / 18 == 1;
  whole = category_at (i % 18 / 3);
  sign = sign_at (i % 3);
}

-- the pattern is for the numbers of no other category
abbrev pub is_for_other : Option PluralCategory → Bool
is_for_other (Some PluralCategory.Other) = true
is_for_other other = false

-- the pattern is for the other numbers, or there is none
abbrev pub is_of_other : Option CompactPattern → Bool
is_of_other None = true
is_of_other (Some p) = is_for_other p.count

-- the pattern is for the number 1 itself
abbrev pub is_of_one : Option CompactPattern → Bool
is_of_one None = false
is_of_one (Some p) = is_none p.count

-- the patterns and the exponent of a magnitude are those of the one before it
abbrev pub IsSameBefore : NumberFormatter → CompactStyle → ℤ → Type 0
IsSameBefore f style m =
    (compact_patterns f.formats style m ≡ compact_patterns f.formats style (m -ℤ pos 1))
    × (exponent_at f.notation m ≡ exponent_at f.notation (m -ℤ pos 1))

-- two keys have the same texts
pub record AreAlike (f : NumberFormatter) (style : CompactStyle) (k l : CompactKey) : Type 0 where
  pub pattern : word_pattern f style k ≡ word_pattern f style l
  pub has_number : has_number_at f style k ≡ has_number_at f style l
  pub one : IsForOneAlone f k → IsForOneAlone f l

-- a key with a smaller index has the same texts
abbrev pub RepeatsAnother : NumberFormatter → CompactStyle → ℕ → Type 0
RepeatsAnother f style i = (j : ℕ) × (j < i) × AreAlike f style (key_at j) (key_at i)

-- the keys with smaller indexes have the number, or a whole text that is read
abbrev pub HaveNumbersBelow : NumberFormatter → CompactStyle → ℕ → Type 0
HaveNumbersBelow f style n = (i : ℕ) → i < n → HasNumberOr f style (key_at i)

-- patterns of keys with the number or without it, among them those of the keys with smaller indexes
pub record AreFirstPatterns (f : NumberFormatter) (style : CompactStyle) (has_number : Bool) (n : ℕ)
    (patterns : List NumberPattern) : Type 0 where
  pub all : (i : ℕ) → i < n → has_number_at f style (key_at i) ≡ has_number
      → Contains patterns (word_pattern f style (key_at i))
  pub only : (p : NumberPattern) → Contains patterns p → IsPatternOf f style has_number p

-- the pattern with an index is told apart from each
abbrev pub IsIndexApart : NumberFormatter → CompactStyle → ℕ → Type 0
IsIndexApart f style i =
    (j : ℕ) → j < 3888 → AreKeysApart f style (key_at i) (key_at j)

-- the pattern has the texts of the key, which the whole number may have
abbrev pub HasTextsAt : NumberFormatter → CompactStyle → NumberPattern → CompactKey → Type 0
HasTextsAt f style p k = HasWholeCategory f k × (p.affixes ≡ (word_pattern f style k).affixes)

-- the pattern has the texts around the number of the key, with one of the categories that the whole number may have
abbrev pub HasTextsOf : NumberFormatter → CompactStyle → NumberPattern → CompactKey → Type 0
HasTextsOf f style p k =
    (has_number_at f style k ≡ true)
    × ((whole : PluralCategory) × HasTextsAt f style p (record k { whole = whole }))

-- the magnitude of a significand times the power of ten of the pattern has this power of ten
abbrev pub HasPowerOf : NumberFormatter → Unsigned → NumberPattern → Type 0
HasPowerOf f v p = exponent_at f.notation (magnitude_by v p.exponent) ≡ p.exponent

-- with the same sign and the same power of ten patterns have the same texts
abbrev pub HasOneText : NumberPattern → NumberPattern → Type 0
HasOneText p q = p.sign ≡ q.sign → p.exponent ≡ q.exponent → p.affixes ≡ q.affixes

-- all patterns of a formatter have, and each key has the number
pub record AreByPower (f : NumberFormatter) (style : CompactStyle) : Type 0 where
  pub number : (k : CompactKey) → has_number_at f style k ≡ true
  pub text : (k l : CompactKey) → HasOneText (word_pattern f style k) (word_pattern f style l)

-- the key of the significand by that magnitude, with the sign of the pattern
pub record IsKeyBy (f : NumberFormatter) (v : Unsigned) (p : NumberPattern) (k : CompactKey) : Type 0 where
  pub magnitude : k.magnitude ≡ magnitude_by v p.exponent
  pub power : HasPowerOf f v p
  pub category : IsCategoryAt f.rules (operands.plain v) k.category
  pub one : k.is_one ≡ is_unit v
  pub sign : k.sign ≡ p.sign

-- the pattern has the texts of the key, or without signs those for other numbers than 1
abbrev pub HasOwnTexts : NumberFormatter → CompactStyle → NumberPattern → CompactKey → Type 0
HasOwnTexts f style p k =
    HasTextsOf f style p k ⊎ (HidesSigns f × HasTextsOf f style p (record k { is_one = false }))

-- the significand times the power of ten of the pattern, if it has the texts of the pattern; else `Syntax`
abbrev pub IsOwnOr : NumberFormatter → CompactStyle → NumberPattern → Decimal → Result Decimal ParseError → Type 0
IsOwnOr f style p v result =
    (IsOwnPattern f style v p × (result ≡ shifted p.exponent (Ok v)))
    ⊎ (¬ IsOwnPattern f style v p × (result ≡ Err Syntax))

-- what reads digits between the texts of all patterns
pub record IsWordReader (f : NumberFormatter) (style : CompactStyle) (r : Reader) : Type 0 where
  pub reader : r ≡ word_reader f r.patterns
  pub patterns : AreWordPatterns f style true r.patterns
  pub readable : IsReadable f.style.symbols
  pub named : AreNamed f.style.symbols r.patterns
  pub exponents : HasCompactExponents f.notation
