-- What a formatter writes, read exactly and as people type it.
use Rattle.std.specs.{Prelude.{◌≡◌, ◌≢◌, ℕ, ◌⊎◌, true, false, List, [], ◌∷◌, ◌++◌, map, flat_map, codes, Option, None, Some, option_map, Result, Err, ◌-ℤ◌, pos, negsuc, ⊤, if◌then◌else◌}, List.Contains, Str.IsUtf8}
use Rattle.decimal_unsigned.specs.declared.error.ParseError.{ParseError, TheVariants.Syntax}
use Rattle.fixed_decimal.specs.{Decimal.Decimal, declared.variations.Sign.Sign}
use Rattle.plural_rules.specs.declared.rules.PluralCategory.{PluralCategory}
use Rattle.decimal_format.specs.{Readable.IsReadable, Symbols.{Affixes, affixes}, declared.reader.alternatives.Alternative.Alternative}
use Rattle.locale_data.specs.declared.compact.CompactStyle.{CompactStyle}
use Rattle.number_format.specs.{declared.{digits.options.DigitOptions.DigitOptions, format.{outer.OuterTexts.OuterTexts, formatter.NumberFormatter.NumberFormatter}, options.{DecimalSeparatorDisplay.DecimalSeparatorDisplay, NumberNotation.NumberNotation, NumberStyle.NumberStyle}, read.{pattern.{NumberPattern.NumberPattern, TheConstants.{SIGN_KEYS, CATEGORY_KEYS}}, pattern_name.PatternName.PatternName, scientific.ExponentForm.ExponentForm, number_reader.{NumberReaderError.NumberReaderError, ParseMode.{ParseMode, TheVariants.{Strict, Lenient}}}}}, AffixedTexts.{AreNamed, HasClash, Reader, IsReadExactly, IsReadTyped}, CompactReading.{HasCompactExponents, HasWordNumbers, AreWordsNamed, IsPatternOf, IsReadInWords}, NumberText.{compact_style, needs_no_integer, outer_by, shown_number, shown_sign}, PatternTexts.{Around, around, affixes_for}, Scaled.{ScaledValue, HasNoIncrement}, ScientificReading.{exponent_form, CanReadExponent}, AffixedExponents.{IsReadWithExponent, IsTypedWithExponent}, TextParts.pieces_text, TypedWords.IsTypedInWords, WholeUnits.{AreCategoriesRead, IsCategoryUnread, IsSaidOr}}

-- ---- Exactly.

-- the notation is `Standard`: no words and no exponent
abbrev pub IsStandard : NumberFormatter → Type 0
IsStandard f = f.options.notation ≡ NumberNotation.Standard

-- no integer digit is cut off, as of 10.2E3 by one digit, which leaves `0.2E3`; and the number is rounded without an
-- increment, since by multiples of 5 the text of 9 is `10E0`
abbrev pub KeepsNotation : Option DigitOptions → Type 0
KeepsNotation (Some o) = (o.integer.max ≡ 32768) × HasNoIncrement o.precision
KeepsNotation None = ⊥

-- exponents are written in this form, and can be read
abbrev pub CanReadExponents : NumberFormatter → Option ExponentForm → Type 0
CanReadExponents f (Some form) = KeepsNotation f.digits × CanReadExponent f.style.symbols form
CanReadExponents f None = ⊥

-- the kind of compact patterns that are written, if there is one
abbrev pub words_of : NumberFormatter → Option CompactStyle
words_of f = compact_style f.options.notation f.options.style

-- words are written, each with a number, and can be read
abbrev pub CanReadWords : NumberFormatter → Option CompactStyle → Type 0
CanReadWords f (Some style) = KeepsNotation f.digits × (HasCompactExponents f.notation × HasWordNumbers f style)
CanReadWords f None = ⊥

-- exponents or words are written that can be read
abbrev pub CanReadOther : NumberFormatter → Type 0
CanReadOther f = CanReadExponents f (exponent_form f f.options.notation) ⊎ CanReadWords f (words_of f)

-- no exponent and no words are written, or some that can be read
abbrev pub CanReadNotation : NumberFormatter → Type 0
CanReadNotation f = IsStandard f ⊎ CanReadOther f

-- and no decimal separator without fraction digits or without integer digits is written
abbrev pub HasPlainDigits : NumberFormatter → Type 0
HasPlainDigits f =
    CanReadNotation f × (f.options.decimal_separator ≡ DecimalSeparatorDisplay.Auto)
    × (needs_no_integer f.digits ≡ false)

-- the text of each category has the number: no text as `yesterday` replaces it
abbrev pub HasNumbers : NumberFormatter → Type 0
HasNumbers f = (c : PluralCategory) → (outer_by f c).has_number ≡ true

-- what is around the whole text: nothing, or a unit or a name, by the plural category
abbrev pub outer_at : NumberFormatter → Option PluralCategory → Around
outer_at f None = around [] true []
outer_at f (Some c) = outer_by f c

-- the pattern of a category and a sign: what the sign writes around the number, within what is around the whole text
abbrev pub pattern_at : NumberFormatter → Option PluralCategory × Sign → NumberPattern
pattern_at f key = record {
  affixes = affixes (pieces_text (outer_at f key.0).prefix ++ (affixes_for f.style key.1).prefix)
      ((affixes_for f.style key.1).suffix ++ pieces_text (outer_at f key.0).suffix);
  sign = key.1;
  category = key.0;
  exponent = pos 0;
}

-- each sign; and with a unit or a name each category and each sign
abbrev pub keys_by : OuterTexts → List (Option PluralCategory × Sign)
keys_by OuterTexts.None = SIGN_KEYS
keys_by texts = CATEGORY_KEYS

-- of a category whose text has no number, `other`: that text is around no number
abbrev pub number_key : NumberFormatter → Option PluralCategory × Sign → Option PluralCategory × Sign
number_key f key = (if (outer_at f key.0).has_number then key.0 else Some PluralCategory.Other, key.1)

abbrev pub number_pattern : NumberFormatter → Option PluralCategory × Sign → NumberPattern
number_pattern f key = pattern_at f (number_key f key)

-- the patterns of a formatter
abbrev pub patterns_of : NumberFormatter → List NumberPattern
patterns_of f = map (number_pattern f) (keys_by f.outer)

-- the reader of its texts, which undoes its scale
abbrev pub reader_of : NumberFormatter → Reader
reader_of f = record {
  symbols = f.style.symbols;
  patterns = patterns_of f;
  rules = f.rules;
  shift = pos 0 -ℤ f.options.scale;
}

-- each text has the number, without words and with an exponent only if it can be read, or is read without it; and the
-- scale can be undone
abbrev pub CanUndo : NumberFormatter → Type 0
CanUndo f = HasPlainDigits f × AreCategoriesRead f × (f.options.scale ≢ negsuc 32767)

-- the texts with words are told apart, if there are any
abbrev pub AreOwnWordsNamed : NumberFormatter → Option CompactStyle → Type 0
AreOwnWordsNamed f (Some style) = AreWordsNamed f style
AreOwnWordsNamed f None = ⊤

-- two patterns with words are not told apart, and have these names
abbrev pub HasOwnWordClash : NumberFormatter → Option CompactStyle → PatternName × PatternName → Type 0
HasOwnWordClash f (Some style) names = HasClash f.style.symbols (IsPatternOf f style true) names
HasOwnWordClash f None names = ⊥

-- the texts of the formatter are read: a text has at most one sign and one number
pub record CanRead (f : NumberFormatter) : Type 0 where
  pub undo : CanUndo f
  pub readable : IsReadable f.style.symbols
  pub named : AreNamed f.style.symbols (patterns_of f)
  pub words : AreOwnWordsNamed f (words_of f)

-- what an error says; `Memory` is reported only where the texts are read
abbrev pub CannotRead : NumberReaderError → NumberFormatter → Type 0
CannotRead NumberReaderError.Notation f = ¬ HasPlainDigits f
CannotRead (NumberReaderError.NoNumber c) f = HasPlainDigits f × IsCategoryUnread f c
CannotRead NumberReaderError.Scale f = HasPlainDigits f × AreCategoriesRead f × (f.options.scale ≡ negsuc 32767)
CannotRead NumberReaderError.Memory f = CanRead f
CannotRead NumberReaderError.Symbols f = CanUndo f × ¬ IsReadable f.style.symbols
CannotRead (NumberReaderError.Affixes a b) f =
    CanUndo f × (IsReadable f.style.symbols
    × (HasClash f.style.symbols (Contains (patterns_of f)) (a, b) ⊎ HasOwnWordClash f (words_of f) (a, b)))

-- u is the number that the formatter shows of v: scaled, rounded, and with the sign that is written
pub record IsShownAs (f : NumberFormatter) (v u : Decimal) : Type 0 where
  pub number : ScaledValue
  pub number_is : shown_number f v ≡ Some number
  pub absolute : u.absolute ≡ number.significand.absolute
  pub sign : u.sign ≡ shown_sign f v number.significand

-- ---- As people type it.

-- the percent sign, unless a unit has texts of its own
abbrev pub percent_name : NumberFormatter → OuterTexts → List ℕ
percent_name f OuterTexts.None = f.style.percent.text.now
percent_name f texts = []

-- the names of a number: the symbol, the narrow symbol and the code of the currency, or the percent sign
abbrev pub names_by : NumberFormatter → NumberStyle → List (List ℕ)
names_by f (NumberStyle.Currency c) =
    f.style.currency.wide.now ∷ f.style.currency.narrow.now ∷ f.style.currency.code ∷ []
names_by f NumberStyle.Decimal = [] ∷ [] ∷ [] ∷ []
names_by f other = percent_name f f.outer ∷ [] ∷ [] ∷ []

-- what is around a number, and the sign that it shows
abbrev pub form : List ℕ → List ℕ → Sign → Affixes × Sign
form prefix suffix sign = (affixes prefix suffix, sign)

abbrev pub form_of : Alternative → Affixes × Sign
form_of a = form a.prefix.now a.suffix.now a.sign

-- a name before the number or after it, with a space or without, or a sign and a name
abbrev pub forms_of_name : List ℕ → List (Affixes × Sign)
forms_of_name name =
    form name [] Sign.None ∷ form (name ++ codes " ") [] Sign.None ∷ form [] name Sign.None
    ∷ form [] (codes " " ++ name) Sign.None ∷ form (codes "-" ++ name) [] Sign.Negative
    ∷ form (codes "-" ++ (name ++ codes " ")) [] Sign.Negative ∷ form (codes "+" ++ name) [] Sign.Positive
    ∷ form (codes "+" ++ (name ++ codes " ")) [] Sign.Positive ∷ []

-- the texts of a pattern, around a number of any category
abbrev pub form_of_pattern : NumberPattern → Affixes × Sign
form_of_pattern p = form p.affixes.prefix p.affixes.suffix p.sign

-- what may be around a number: what the formatter writes, nothing, parentheses for a minus sign, and the names
abbrev pub typed_forms : NumberFormatter → List (Affixes × Sign)
typed_forms f =
    map form_of_pattern (patterns_of f)
    ++ form [] [] Sign.None ∷ form (codes "(") (codes ")") Sign.Negative
    ∷ flat_map forms_of_name (names_by f f.options.style)

pub record NumberReader : Type 0 where
  pub units : OuterTexts
  pub texts : Reader
  pub exponent : Option ExponentForm
  pub words : Option (NumberFormatter × CompactStyle)
  pub forms : List (Affixes × Sign)

-- the formatter and its kind of compact patterns, if there is one
abbrev pub word_formatter : NumberFormatter → Option (NumberFormatter × CompactStyle)
word_formatter f = option_map (λ style. (f, style)) (words_of f)

abbrev pub number_reader_of : NumberFormatter → NumberReader
number_reader_of f = record {
  units = f.outer;
  texts = reader_of f;
  exponent = exponent_form f f.options.notation;
  words = word_formatter f;
  forms = typed_forms f;
}

-- the result of reading a text in standard notation exactly: of a text without a number the number that it says
abbrev pub IsReadOrSaid : ℕ → OuterTexts → Reader → List ℕ → Result Decimal ParseError → Type 0
IsReadOrSaid inline units r text = IsSaidOr units r.shift text (IsReadExactly inline r text)

-- the result of reading a text exactly, with an exponent or with words if the formatter writes them
abbrev pub IsReadBy : ℕ → OuterTexts → Reader → Option ExponentForm → Option (NumberFormatter × CompactStyle) → List ℕ
    → Result Decimal ParseError → Type 0
IsReadBy inline units r None None text result = IsReadOrSaid inline units r text result
IsReadBy inline units r None (Some w) text result = IsReadInWords inline w.0 w.1 text result
IsReadBy inline units r (Some form) words text result = IsReadWithExponent inline r form text result

abbrev pub IsReadStrictly : ℕ → NumberReader → List ℕ → Result Decimal ParseError → Type 0
IsReadStrictly inline r text result = IsReadBy inline r.units r.texts r.exponent r.words text result

-- the result of lenient reading with alternatives
abbrev pub IsTypedBy : ℕ → OuterTexts → Reader → Option ExponentForm → Option (NumberFormatter × CompactStyle)
    → List Alternative → List ℕ → Result Decimal ParseError → Type 0
IsTypedBy inline units r None None all text result = IsSaidOr units r.shift text (IsReadTyped inline r all text) result
IsTypedBy inline units r None (Some w) all text result = IsTypedInWords inline w.0 w.1 r all text result
IsTypedBy inline units r (Some form) words all text result = IsTypedWithExponent inline r form all text result

-- the result of lenient reading: by the first of these forms that has a number
abbrev pub IsReadLeniently : ℕ → NumberReader → List ℕ → Result Decimal ParseError → Type 0
IsReadLeniently inline r text result =
    (alternatives : List Alternative) × (map form_of alternatives ≡ r.forms)
    × IsTypedBy inline r.units r.texts r.exponent r.words alternatives text result

-- the result of reading in a mode; leniently, a text that is not UTF-8 is `Syntax`
abbrev pub IsReadInMode : ℕ → ParseMode → NumberReader → List ℕ → Result Decimal ParseError → Type 0
IsReadInMode inline Strict r text result = IsReadStrictly inline r text result
IsReadInMode inline Lenient r text result =
    (IsUtf8 text × IsReadLeniently inline r text result) ⊎ (¬ IsUtf8 text × (result ≡ Err Syntax))
