-- The text of a number: what a formatter writes.
use Rattle.std.specs.{Prelude.{◌≡◌, ◌≢◌, ℕ, ◌==◌, min, Bool, true, false, not, ◌&&◌, ◌||◌, if◌then◌else◌, ◌⊎◌, IsSome, IsSomeAnd, List, [], ◌∷◌, ◌++◌, Option, Some, None, option_and_then, slice_get, unsigned_abs, ℤ, pos, negsuc, ◌+ℤ◌, ◌-ℤ◌, int_lt}, Int.{int_max, int_min}, Option.option_map_or, Ordering.int_eq}
use Rattle.decimal_digits.specs.Number.{first, digit}
use Rattle.decimal_unsigned.specs.{Unsigned.{Unsigned, integer_value}, Edits.{multiplied_pow10, padded_start}, declared.decimal.TheConstants.INLINE_DIGITS}
use Rattle.fixed_decimal.specs.{Decimal.{Decimal, with_absolute, displayed_sign}, DecimalText.IsLong, declared.variations.Sign.Sign}
use Rattle.decimal_format.specs.{Symbols.Symbols, declared.grouping.GroupingStrategy.TheVariants.Never}
use Rattle.plural_rules.specs.Operands as operands
use Rattle.plural_rules.specs.declared.rules.PluralCategory.{PluralCategory}
use Rattle.locale_names.specs.{declared.tables.rows.currencies.NamePattern.NamePattern, LocaleCurrencies.{name_for, pattern_for}, Texts.short_text}
use Rattle.locale_names.specs.LocaleUnits as units
use Rattle.locale_data.specs.Compact as compact
use Rattle.locale_data.specs.{declared.{compact.CompactStyle.CompactStyle, tables.{rows.{compact.{AffixText.AffixText, CompactForm.CompactForm, CompactPattern.CompactPattern, PercentUnit.PercentUnit}, TableRange.TableRange}, compact.TheConstants.PERCENT_UNITS}, number_formats.NumberFormats.NumberFormats}, Compact.{text_of, compact_patterns, unit_for}, Plurals.IsCategoryAt}
use Rattle.number_format.specs.{declared.{digits.{options.DigitOptions.DigitOptions, precision.Precision.Precision}, notation.Notation.Notation, format.{affixes.{NumberAffixes.NumberAffixes, StyleTexts.StyleTexts}, outer.OuterTexts.OuterTexts, formatter.NumberFormatter.NumberFormatter, text_part.PartKind.PartKind}, options.{CompactLength.CompactLength, DecimalSeparatorDisplay.DecimalSeparatorDisplay, ExponentOptions.ExponentOptions, ExponentSign.ExponentSign, NumberNotation.NumberNotation, NumberStyle.NumberStyle}}, NumberStyles.{currency_text, shows_name}, PatternTexts.{Around, around, within, sign_text, sign_pieces, space_if, pattern_around}, ShownDigits.rounded_whole, TextParts.{pieces_text, pieces_of, parts_pieces, digit_pieces}, Scaled.{ScaledValue, scaled_value, scaled, raised, rounded_number, exponent_at, ScalingNeedsMemory}}
use Rattle.number_format.specs.ShownDigits as shown_digits
use Rattle.number_format.specs.TextParts as parts

-- ---- The number: scaled, rounded, and split into a significand and an exponent.

-- by a notation and digits; without digits the number as it stands
abbrev pub rounded_in : Notation → Option DigitOptions → Decimal → Option ScaledValue
rounded_in notation None v = Some (scaled_value v (pos 0))
rounded_in notation (Some digits) v = scaled notation digits v

-- the significand and the exponent that are shown of a number: it is multiplied by the power of ten of the scale and
-- rounded; none if the scaled number, the rounded one, its position or its significand is beyond the limits
abbrev pub shown_number : NumberFormatter → Decimal → Option ScaledValue
shown_number f v =
    option_and_then (rounded_in f.notation f.digits) (with_absolute v (multiplied_pow10 v.absolute f.options.scale))

-- the rounded number, with the integer digits that are cut off; 0 if a limit is passed
abbrev pub rounded_by : Notation → Option DigitOptions → Decimal → ℕ
rounded_by notation None v = v.absolute.number
rounded_by notation (Some digits) v = rounded_number notation digits v

abbrev pub number_before_cut : NumberFormatter → Decimal → ℕ
number_before_cut f v =
    option_map_or (rounded_by f.notation f.digits) (with_absolute v (multiplied_pow10 v.absolute f.options.scale)) 0

-- the sign that is shown with a significand: that of the rounded number, also if its digits are cut off: `+0` of 1000
-- by at most three integer digits
abbrev pub shown_sign : NumberFormatter → Decimal → Decimal → Sign
shown_sign f v significand = displayed_sign f.options.sign_display (number_before_cut f v) significand.sign

-- the number before compact notation divides it, scaled and rounded; as it is if a limit is passed
abbrev pub whole_by : Option DigitOptions → Decimal → Unsigned
whole_by None v = v.absolute
whole_by (Some digits) v = rounded_whole digits v

abbrev pub whole_number : NumberFormatter → Decimal → Unsigned
whole_number f v =
    option_map_or (whole_by f.digits) (with_absolute v (multiplied_pow10 v.absolute f.options.scale)) v.absolute

-- ---- Before and after the number.

abbrev pub is_empty : List ℕ → Bool
is_empty [] = true
is_empty (b ∷ bytes) = false

abbrev pub currency_if : StyleTexts → Bool → List parts.Piece
currency_if t has_currency = if has_currency then pieces_of PartKind.Currency (currency_text t.currency) else []

abbrev pub compact_pieces : TableRange → List parts.Piece
compact_pieces range = pieces_of PartKind.Compact (text_of range)

-- a prefix or a suffix of a compact pattern, with the space of a currency beside a digit
abbrev pub compact_prefix : StyleTexts → AffixText → List parts.Piece
compact_prefix t a =
    compact_pieces a.before ++ (currency_if t a.has_currency
    ++ (compact_pieces a.after ++ space_if (a.has_currency && (is_empty (text_of a.after) && t.currency.space_after))))

abbrev pub compact_suffix : StyleTexts → AffixText → List parts.Piece
compact_suffix t a =
    space_if (a.has_currency && (is_empty (text_of a.before) && t.currency.space_before))
    ++ (compact_pieces a.before ++ (currency_if t a.has_currency ++ compact_pieces a.after))

-- the sign before the prefix, or after it
abbrev pub first_sign : StyleTexts → Sign → CompactForm → List parts.Piece
first_sign t s CompactForm.SignLast = []
first_sign t s other = sign_pieces t.symbols s

abbrev pub last_sign : StyleTexts → Sign → CompactForm → List parts.Piece
last_sign t s CompactForm.SignLast = sign_pieces t.symbols s
last_sign t s other = []

abbrev pub has_number : CompactForm → Bool
has_number CompactForm.Literal = false
has_number other = true

-- a compact pattern, for a sign
abbrev pub compact_around : StyleTexts → Sign → CompactPattern → Around
compact_around t s p =
    around (first_sign t s p.form ++ (compact_prefix t p.prefix ++ last_sign t s p.form)) (has_number p.form)
    (compact_suffix t p.suffix)

abbrev pub is_plain : CompactForm → Bool
is_plain CompactForm.Plain = true
is_plain other = false

-- the pattern of the style, or a compact pattern that is no plain one
abbrev pub around_by : StyleTexts → Sign → Option CompactPattern → Around
around_by t s None = pattern_around t s
around_by t s (Some p) = if is_plain p.form then pattern_around t s else compact_around t s p

-- the parts are these pieces
pub record AreParts (a : Around) (shown : NumberAffixes) : Type 0 where
  pub prefix : parts_pieces shown.prefix ≡ a.prefix
  pub has_number : shown.has_number ≡ a.has_number
  pub suffix : parts_pieces shown.suffix ≡ a.suffix

-- ---- The digits and the exponent.

-- the sign that an exponent is shown with
abbrev pub exponent_sign : ExponentSign → ℤ → Sign
exponent_sign ExponentSign.Auto e = if int_lt e (pos 0) then Sign.Negative else Sign.None
exponent_sign ExponentSign.Always e = if int_lt e (pos 0) then Sign.Negative else Sign.Positive
exponent_sign ExponentSign.Never e = Sign.None

-- an exponent as it is shown: with at least the number of digits that the options have
abbrev pub shown_exponent : ExponentOptions → ℤ → Decimal
shown_exponent o e = record {
  sign = exponent_sign o.sign e;
  absolute = padded_start (integer_value (unsigned_abs e)) (pos (min o.digits 32767));
}

abbrev pub exponent_kind : Sign → PartKind
exponent_kind Sign.Positive = PartKind.ExponentPlusSign
exponent_kind other = PartKind.ExponentMinusSign

abbrev pub exponent_pieces : NumberFormatter → Option Decimal → List parts.Piece
exponent_pieces f None = []
exponent_pieces f (Some e) =
    pieces_of PartKind.ExponentSeparator f.separator.text.now
    ++ (pieces_of (exponent_kind e.sign) (sign_text f.style.symbols e.sign)
    ++ digit_pieces false PartKind.ExponentInteger f.style.symbols Never e.absolute)

-- the decimal separator is always written
abbrev pub is_always : DecimalSeparatorDisplay → Bool
is_always DecimalSeparatorDisplay.Always = true
is_always DecimalSeparatorDisplay.Auto = false

abbrev pub is_significant : Precision → Bool
is_significant (Precision.Significant s) = true
is_significant other = false

-- the integer part is 0, shown as one digit
abbrev pub has_no_integer : Unsigned → Bool
has_no_integer v = int_eq v.hi (pos 0) && (digit v.number (pos 0) == 0)

-- no integer digit has to be shown
abbrev pub needs_no_integer : Option DigitOptions → Bool
needs_no_integer None = false
needs_no_integer (Some o) = o.integer.min == 0

-- zero is shown by significant digits, of which its integer digit is one
abbrev pub is_significant_zero : Option DigitOptions → ℕ → Bool
is_significant_zero None n = false
is_significant_zero (Some o) n = is_significant o.precision && (n == 0)

-- a number begins with the decimal separator: `.5`. No integer digit has to be shown, the only one is 0, and fraction
-- digits or the separator follow it
abbrev pub hides_zero : Option DigitOptions → DecimalSeparatorDisplay → Unsigned → Bool
hides_zero digits display v =
    needs_no_integer digits && (has_no_integer v && ((int_lt v.lo (pos 0) || is_always display)
    && not (is_significant_zero digits v.number)))

-- the decimal separator of a number without fraction digits, if it is always written
abbrev pub bare_separator : DecimalSeparatorDisplay → Symbols → Unsigned → List ℕ
bare_separator DecimalSeparatorDisplay.Auto s v = []
bare_separator DecimalSeparatorDisplay.Always s v = if int_lt v.lo (pos 0) then [] else s.decimal

-- the digits of a significand, with that separator
abbrev pub significand_pieces :
    NumberFormatter → Option DigitOptions → DecimalSeparatorDisplay → Unsigned → List parts.Piece
significand_pieces f digits display v =
    digit_pieces (hides_zero digits display v) PartKind.Integer f.style.symbols f.options.grouping v
    ++ pieces_of PartKind.Decimal (bare_separator display f.style.symbols v)

-- the digits of a significand and of an exponent, if there is one
abbrev pub number_part : NumberFormatter → Unsigned → Option Decimal → List parts.Piece
number_part f v e = significand_pieces f f.digits f.options.decimal_separator v ++ exponent_pieces f e

-- ---- Compact notation.

-- the amount is written without the name of its currency
abbrev pub has_symbol : NumberStyle → Bool
has_symbol (NumberStyle.Currency c) = not (shows_name c.display)
has_symbol other = false

abbrev pub words_of : CompactLength → CompactStyle
words_of CompactLength.Short = CompactStyle.Short
words_of CompactLength.Long = CompactStyle.Long

-- the compact patterns: those with the symbols of currencies are short
abbrev pub compact_style : NumberNotation → NumberStyle → Option CompactStyle
compact_style (NumberNotation.Compact words) style =
    Some (if has_symbol style then CompactStyle.Currency else words_of words)
compact_style other style = None

-- the sign is a minus sign
abbrev pub is_negative : Sign → Bool
is_negative Sign.Negative = true
is_negative other = false

-- the number is 1 without a minus sign, as `1` or `1.0`
abbrev pub is_one : Decimal → Bool
is_one v =
    not (is_negative v.sign) && (operands.i v.absolute == 1 && operands.w v.absolute == 0)

-- the exponent of a compact pattern, from 0 to 255
abbrev pub compact_power : ℤ → ℤ
compact_power e = int_max (pos 0) (int_min e (pos 255))

-- the magnitude whose pattern is taken: that of the first digit before the division; or, where an increment carried it
-- to a pattern with a greater exponent, that of the power itself
abbrev pub compact_magnitude : Notation → Decimal → ℤ → ℤ
compact_magnitude notation significand e =
    let m = int_min (first significand.absolute.number +ℤ compact_power e) (pos 32767) in
    if int_lt (compact_power e) (exponent_at notation m) then compact_power e else m

-- the pattern of a magnitude and a plural category, in compact notation
abbrev pub compact_pattern : NumberFormats → Option CompactStyle → ℤ → PluralCategory → Bool → Option CompactPattern
compact_pattern formats None magnitude category one = None
compact_pattern formats (Some style) magnitude category one =
    compact.pattern_for category one (compact_patterns formats style magnitude)

-- ---- Around the whole text.

abbrev pub with_number : List ℕ → List ℕ → units.Around
with_number prefix suffix = record { prefix = prefix; has_number = true; suffix = suffix }

abbrev pub percent_texts : Option PercentUnit → PluralCategory → units.Around
percent_texts None category = with_number [] []
percent_texts (Some unit) category =
    with_number (text_of (unit_for unit category).prefix) (text_of (unit_for unit category).suffix)

-- the number is before the name, and the text between them; without a pattern nothing is between them
abbrev pub place_of : Option NamePattern → Bool × List ℕ
place_of None = (true, [])
place_of (Some p) = (p.number_first, short_text p.between)

-- the name of a currency, after the number or before it
abbrev pub name_texts : List ℕ → Bool × List ℕ → units.Around
name_texts name place =
    if place.0 then with_number [] (place.1 ++ name) else with_number (name ++ place.1) []

-- the texts of a pattern, of one kind
abbrev pub around_texts : PartKind → units.Around → Around
around_texts kind a = around (pieces_of kind a.prefix) a.has_number (pieces_of kind a.suffix)

-- a unit or a name, by the plural category; in compact notation percent and permille are units
abbrev pub outer_texts : NumberFormats → OuterTexts → Option CompactStyle → NumberStyle → PluralCategory → Around
outer_texts formats (OuterTexts.Units rows) words style category =
    around_texts PartKind.Unit (units.around_number rows category)
outer_texts formats (OuterTexts.Names names) words style category =
    around_texts PartKind.Currency (name_texts (name_for names category) (place_of (pattern_for names category)))
outer_texts formats OuterTexts.None (Some words) NumberStyle.Percent category =
    around_texts PartKind.Unit (percent_texts (slice_get PERCENT_UNITS formats.unit) category)
outer_texts formats OuterTexts.None (Some words) NumberStyle.Permille category =
    around_texts PartKind.Unit (with_number [] (226 ∷ 128 ∷ 176 ∷ []))
outer_texts formats OuterTexts.None words style category = around [] true []

-- what a formatter writes around the whole text, by the plural category of the number
abbrev pub outer_by : NumberFormatter → PluralCategory → Around
outer_by f = outer_texts f.formats f.outer (compact_style f.options.notation f.options.style) f.options.style

-- the operand c of an exponent, from 0 to 255; one below 0 is as 255: no range of plural rules has either
abbrev pub exponent_operand : ℤ → ℕ
exponent_operand (pos n) = min n 255
exponent_operand (negsuc n) = 255

-- the operands of a number with an exponent: of the whole number, and c; beyond the limits those of the significand
abbrev pub operands_with : Unsigned → ℤ → operands.Operands
operands_with v e =
    option_map_or (λ w. operands.compact w (exponent_operand e))
    (multiplied_pow10 v (e -ℤ pos (exponent_operand e))) (operands.plain v)

-- by which operands what is around the whole text is chosen: in compact notation those of the number before it is
-- divided, else those of the number that is shown
abbrev pub operands_by : NumberNotation → Unsigned → ScaledValue → operands.Operands
operands_by NumberNotation.Standard whole number = operands.plain number.significand.absolute
operands_by (NumberNotation.Compact words) whole number = operands.plain whole
operands_by other whole number = operands_with number.significand.absolute number.exponent

abbrev pub outer_operands : NumberFormatter → Decimal → ScaledValue → operands.Operands
outer_operands f v = operands_by f.options.notation (whole_number f v)

-- ---- The text.

-- the exponent as it is shown, if the notation has one
abbrev pub exponent_of : NumberNotation → ℤ → Option Decimal
exponent_of (NumberNotation.Scientific o) e = Some (shown_exponent o e)
exponent_of (NumberNotation.Engineering o) e = Some (shown_exponent o e)
exponent_of other e = None

-- the pieces of a number, with their kinds; compact patterns are by the plural category of the significand as it is
-- shown
pub record AreNumberPieces (f : NumberFormatter) (v : Decimal) (pieces : List parts.Piece) : Type 0 where
  pub number : ScaledValue
  pub category : PluralCategory
  pub whole : PluralCategory
  pub number_is : shown_number f v ≡ Some number
  pub of_significand : IsCategoryAt f.rules (operands.plain number.significand.absolute) category
  pub of_whole : IsCategoryAt f.rules (outer_operands f v number) whole
  pub value : pieces ≡ within (outer_by f whole) (within (around_by f.style (shown_sign f v number.significand)
      (compact_pattern f.formats (compact_style f.options.notation f.options.style)
      (compact_magnitude f.notation number.significand number.exponent) category (is_one number.significand)))
      (number_part f number.significand.absolute (exponent_of f.options.notation number.exponent)))

-- the text of a number: that of its pieces
abbrev pub IsNumberText : NumberFormatter → Decimal → List ℕ → Type 0
IsNumberText f v text = (pieces : List parts.Piece) × AreNumberPieces f v pieces × (text ≡ pieces_text pieces)

-- P holds of the text of a number
abbrev pub HasNumberText : NumberFormatter → Decimal → (List ℕ → Type 0) → Type 0
HasNumberText f v P = (text : List ℕ) × IsNumberText f v text × P text

-- ---- Out of memory.

-- in a rounding; without digits nothing is rounded
abbrev pub RoundingNeedsMemory : Notation → Option DigitOptions → Decimal → Type 0
RoundingNeedsMemory notation None v = ⊥
RoundingNeedsMemory notation (Some digits) v =
    ScalingNeedsMemory INLINE_DIGITS notation digits v.sign (raised notation v.absolute.number)

-- in a rounding of the scaled number
abbrev pub NeedsMemory : NumberFormatter → Decimal → Type 0
NeedsMemory f v =
    IsSomeAnd (with_absolute v (multiplied_pow10 v.absolute f.options.scale)) (RoundingNeedsMemory f.notation f.digits)

-- in the rounding of the number before compact notation divides it
abbrev pub WholeRoundingNeedsMemory : NumberFormatter → Decimal → Type 0
WholeRoundingNeedsMemory f v =
    IsSomeAnd (with_absolute v (multiplied_pow10 v.absolute f.options.scale))
    (λ w. IsSomeAnd f.digits (λ o. shown_digits.NeedsMemory INLINE_DIGITS o w.sign 0 w.absolute.number))

-- what is around the whole text depends on the plural category: of units, of names, and of percent in compact notation
abbrev pub is_by_category : OuterTexts → Option CompactStyle → NumberStyle → Bool
is_by_category OuterTexts.None (Some words) NumberStyle.Percent = true
is_by_category OuterTexts.None words style = false
is_by_category texts words style = true

abbrev pub has_categories : NumberFormatter → Bool
has_categories f =
    is_by_category f.outer (compact_style f.options.notation f.options.style) f.options.style

-- memory may be needed to find the category by which a unit or a name is chosen. In standard notation it never is; in
-- the others a copy of the number is made, which may allocate if the number has more digits than are kept without an
-- allocation, and compact notation rounds it, which may allocate too
pub record WholeNeedsMemory (f : NumberFormatter) (v : Decimal) : Type 0 where
  pub by_category : has_categories f ≡ true
  pub copied : f.options.notation ≢ NumberNotation.Standard
  pub memory : IsLong INLINE_DIGITS v
      ⊎ (IsSome (compact_style f.options.notation f.options.style) × WholeRoundingNeedsMemory f v)

-- in a rounding, or for the category of a unit or a name
abbrev pub WritingNeedsMemory : NumberFormatter → Decimal → Type 0
WritingNeedsMemory f v = NeedsMemory f v ⊎ WholeNeedsMemory f v

-- the number is copied before it is rounded: always, except in standard notation without a scale
abbrev pub IsCopied : NumberFormatter → Type 0
IsCopied f = f.notation ≡ Notation.Standard → f.options.scale ≢ pos 0

-- as in writing; or for a copy of a number of more digits than are kept without an allocation
abbrev pub FormattingNeedsMemory : NumberFormatter → Decimal → Type 0
FormattingNeedsMemory f v = WritingNeedsMemory f v ⊎ (IsCopied f × IsLong INLINE_DIGITS v)
