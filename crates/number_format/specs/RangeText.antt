-- The text of a range of two numbers, as `1–2 days`: that of ECMA-402's formatRange. Which texts both numbers have in
-- common ECMA-402 leaves open, and it is as ICU has it.
use Rattle.std.specs.{Prelude.{◌≡◌, ℕ, ◌+◌, ◌/◌, ◌==◌, nat_lt, Bool, true, false, not, ◌||◌, ◌&&◌, if◌then◌else◌, ◌⊎◌, IsSome, List, [], ◌∷◌, ◌++◌, count_by, Option, Some, None, ℤ, pos}, Str.bytes_eq, Ordering.int_eq}
use Rattle.decimal_digits.specs.declared.rounding.RoundError.{RoundError}
use Rattle.decimal_unsigned.specs.{Unsigned.{Unsigned, same}, declared.decimal.TheConstants.INLINE_DIGITS}
use Rattle.fixed_decimal.specs.{Decimal.{Decimal, signed_number}, DecimalText.IsLong, declared.variations.Sign.Sign}
use Rattle.plural_rules.specs.Operands as operands
use Rattle.plural_rules.specs.declared.rules.PluralCategory.{PluralCategory}
use Rattle.locale_data.specs.{declared.tables.rows.{compact.{CompactForm.{CompactForm, TheVariants.SignLast}, CompactPattern.CompactPattern}, patterns.{AffixPair.AffixPair, Pattern.Pattern, Piece.Piece}, ranges.{ApproximatelySign.ApproximatelySign, RangeFormat.RangeFormat, RangeSeparator.{RangeSeparator, TheVariants.{SpacedHyphen, SpacedEnDash}}}}, Patterns.affixes_of, PluralRanges.plural_range_category, Plurals.IsCategoryAt}
use Rattle.locale_data.specs.RangeFormats as range_texts
use Rattle.number_format.specs.{declared.{format.{affixes.StyleTexts.StyleTexts, formatter.NumberFormatter.NumberFormatter, text_part.PartKind.PartKind}, options.NumberNotation.NumberNotation, range.{form.RangeForm.{RangeForm, TheVariants.{Approximate, Common, Apart}}, range_texts.RangeTexts.RangeTexts}}, NumberStyles.{begins_with_currency, ends_with_currency}, NumberText.{around_by, compact_magnitude, compact_pattern, compact_prefix, compact_style, compact_suffix, exponent_of, has_number, is_negative, is_one, is_plain, number_part, outer_by, outer_operands, shown_number, shown_sign, FormattingNeedsMemory}, PatternTexts.{Around, around, affix_pieces, literal, pattern_pieces, sign_pieces, space_if, within}, Scaled.ScaledValue, TextParts.{pieces_of, pieces_text}}
use Rattle.number_format.specs.TextParts as parts

-- ---- The ends.

-- an end of a range: its formatter, the digits and the exponent that are shown, and by what the affixes are chosen
pub record RangeEnd : Type 0 where
  pub formatter : NumberFormatter
  pub digits : Unsigned
  pub exponent : ℤ
  pub sign : Sign
  pub pattern : Option CompactPattern

-- the end of a number that is rounded to a significand and an exponent, and of the category of the significand
abbrev pub shown_end : NumberFormatter → Decimal → ScaledValue → PluralCategory → RangeEnd
shown_end f v number category = record {
  formatter = f;
  digits = number.significand.absolute;
  exponent = number.exponent;
  sign = shown_sign f v number.significand;
  pattern = compact_pattern f.formats (compact_style f.options.notation f.options.style)
      (compact_magnitude f.notation number.significand number.exponent) category (is_one number.significand);
}

-- a number as an end: rounded, and its affixes and the category of what is around it chosen as if it was written alone
pub record IsRangeEnd (f : NumberFormatter) (v : Decimal) (n : RangeEnd) : Type 0 where
  pub number : ScaledValue
  pub category : PluralCategory
  pub whole : PluralCategory
  pub number_is : shown_number f v ≡ Some number
  pub of_significand : IsCategoryAt f.rules (operands.plain number.significand.absolute) category
  pub of_whole : IsCategoryAt f.rules (outer_operands f v number) whole
  pub value : n ≡ shown_end f v number category

-- the digits of an end, and its exponent
abbrev pub end_number : RangeEnd → List parts.Piece
end_number n = number_part n.formatter n.digits (exponent_of n.formatter.options.notation n.exponent)

-- what is around an end
abbrev pub end_around : RangeEnd → Around
end_around n = around_by n.formatter.style n.sign n.pattern

-- ---- What the ends have in common.

-- a style without the spaces between a currency and a digit
abbrev pub without_spaces : StyleTexts → StyleTexts
without_spaces t = record t { currency = record t.currency { space_before = false; space_after = false } }

-- what is around an end, without the spaces between a currency and a digit
abbrev pub bare_around : RangeEnd → Around
bare_around n = around_by (without_spaces n.formatter.style) n.sign n.pattern

-- two facts hold both or not at all
abbrev pub both_or_neither : Bool → Bool → Bool
both_or_neither a b = if a then b else not b

-- the prefixes are equal, the suffixes are equal, and a number is between both, or between neither
abbrev pub are_same_texts : Around → Around → Bool
are_same_texts a b =
    bytes_eq (pieces_text a.prefix) (pieces_text b.prefix)
    && (bytes_eq (pieces_text a.suffix) (pieces_text b.suffix) && both_or_neither a.has_number b.has_number)

-- a byte of UTF-8 begins a character: it is none of those that continue one
abbrev pub begins_character : ℕ → Bool
begins_character b = not (b / 64 == 2)

-- the number of characters of a text in UTF-8
abbrev pub characters : List ℕ → ℕ
characters text = count_by begins_character text

-- the number of characters before and after a number together
abbrev pub characters_around : Around → ℕ
characters_around a = characters (pieces_text a.prefix) + characters (pieces_text a.suffix)

-- the notation writes an exponent
abbrev pub has_exponent : NumberNotation → Bool
has_exponent (NumberNotation.Scientific o) = true
has_exponent (NumberNotation.Engineering o) = true
has_exponent other = false

-- the exponent that is written, and 0 if none is
abbrev pub written_exponent : RangeEnd → ℤ
written_exponent n = if has_exponent n.formatter.options.notation then n.exponent else pos 0

-- the numbers, before they are rounded, are equal; `0` and `-0` are equal too
abbrev pub are_equal : Decimal → Decimal → Bool
are_equal v w = int_eq (signed_number v) (signed_number w)

-- both are negative, or neither is
abbrev pub have_same_sign : Decimal → Decimal → Bool
have_same_sign v w = both_or_neither (is_negative v.sign) (is_negative w.sign)

-- the form of two ends, whose numbers are equal or not, and of one sign or not: one approximate number, if the same
-- texts are around both, the written exponents are equal, and the numbers are equal, or have one sign and are rounded
-- to the same digits; one number after the other between these texts, if the prefix and the suffix together have more
-- than one character; or each with its own
abbrev pub form_by : Bool → Bool → RangeEnd → RangeEnd → RangeForm
form_by equal same_sign m n =
    let alike = are_same_texts (bare_around m) (bare_around n) in
    let rounded_alike = same_sign && same m.digits n.digits in
    if alike && (int_eq (written_exponent m) (written_exponent n) && (equal || rounded_alike)) then Approximate
    else if alike && nat_lt 1 (characters_around (bare_around m)) then Common
    else Apart

-- the form of the range of two numbers and their ends
abbrev pub range_form : Decimal → Decimal → RangeEnd → RangeEnd → RangeForm
range_form v w = form_by (are_equal v w) (have_same_sign v w)

-- ---- The separator.

-- each number has the texts around it
abbrev pub is_apart : RangeForm → Bool
is_apart Apart = true
is_apart other = false

-- spaces are beside the separator after an exponent, and if the start has affixes of its own
abbrev pub needs_spaces : RangeForm → RangeEnd → Bool
needs_spaces form m =
    has_exponent m.formatter.options.notation || (is_apart form && nat_lt 0 (characters_around (bare_around m)))

-- the separator has spaces of its own; a thin space is none
abbrev pub has_spaces : RangeSeparator → Bool
has_spaces SpacedHyphen = true
has_spaces SpacedEnDash = true
has_spaces other = false

-- the separator, between two spaces if they are needed and it has none of its own
abbrev pub separator_pieces : RangeSeparator → Bool → List parts.Piece
separator_pieces s needed =
    let space = literal (if needed && not (has_spaces s) then 32 ∷ [] else []) in
    space ++ (literal (range_texts.separator_text s) ++ space)

-- ---- An approximate number.

-- the approximately sign
abbrev pub approximately_pieces : ApproximatelySign → List parts.Piece
approximately_pieces a = pieces_of PartKind.ApproximatelySign (range_texts.sign_text a)

-- a piece of a pattern: a sign has the approximately sign before it; in a number that is shown without a sign, the
-- approximately sign is instead of the plus sign
abbrev pub approximate_piece : StyleTexts → ApproximatelySign → Sign → Piece → List parts.Piece
approximate_piece t a Sign.None Piece.Plus = approximately_pieces a
approximate_piece t a s Piece.Minus = approximately_pieces a ++ pattern_pieces t Piece.Minus
approximate_piece t a s Piece.Plus = approximately_pieces a ++ pattern_pieces t Piece.Plus
approximate_piece t a s other = pattern_pieces t other

-- the affixes of a sign; without a sign those of the plus sign
abbrev pub approximate_affixes : Pattern → Sign → AffixPair
approximate_affixes p Sign.None = p.plus
approximate_affixes p other = affixes_of p other

-- what is around a number by the pattern of a style, with an approximately sign and the space of a currency
abbrev pub approximate_pattern : StyleTexts → ApproximatelySign → Sign → Around
approximate_pattern t a s =
    let pieces = affix_pieces (approximate_piece t a s) in
    let prefix = (approximate_affixes t.pattern s).prefix in
    let suffix = (approximate_affixes t.pattern s).suffix in
    around (pieces prefix ++ space_if (ends_with_currency prefix && t.currency.space_after)) true
    (space_if (begins_with_currency suffix && t.currency.space_before) ++ pieces suffix)

-- the pieces if a fact holds, and else none
abbrev pub pieces_if : Bool → List parts.Piece → List parts.Piece
pieces_if b pieces = if b then pieces else []

-- the sign is after the prefix
abbrev pub is_sign_last : CompactForm → Bool
is_sign_last SignLast = true
is_sign_last other = false

-- what is around a number by a compact pattern, with an approximately sign before the sign
abbrev pub approximate_compact : StyleTexts → ApproximatelySign → Sign → CompactPattern → Around
approximate_compact t a s p =
    let signs = approximately_pieces a ++ sign_pieces t.symbols s in
    around (pieces_if (not (is_sign_last p.form)) signs
    ++ (compact_prefix t p.prefix ++ pieces_if (is_sign_last p.form) signs))
    (has_number p.form) (compact_suffix t p.suffix)

-- what is around a number, with an approximately sign
abbrev pub approximate_around : StyleTexts → ApproximatelySign → Sign → Option CompactPattern → Around
approximate_around t a s None = approximate_pattern t a s
approximate_around t a s (Some p) = if is_plain p.form then approximate_pattern t a s else approximate_compact t a s p

-- ---- The text.

-- the pieces of a range, one after another
pub record RangePieces : Type 0 where
  pub prefix : List parts.Piece
  pub start : List parts.Piece
  pub middle : List parts.Piece
  pub end : List parts.Piece
  pub suffix : List parts.Piece

-- a range as it is shown; the category is that of what is around the whole text
pub record ShownRange : Type 0 where
  pub start : RangeEnd
  pub end : RangeEnd
  pub format : RangeFormat
  pub form : RangeForm
  pub spaced : Bool
  pub category : PluralCategory

-- the pieces without what is around the whole text: one number, which is of neither end alone; two numbers between the
-- affixes of the start; or two numbers with affixes of their own
abbrev pub inner_pieces : RangeForm → ShownRange → RangePieces
inner_pieces Approximate r = record {
  prefix = [];
  start = [];
  middle =
      within (approximate_around r.start.formatter.style r.format.approximately r.start.sign r.start.pattern)
      (end_number r.start);
  end = [];
  suffix = [];
}
inner_pieces Common r = record {
  prefix = (end_around r.start).prefix;
  start = pieces_if (end_around r.start).has_number (end_number r.start);
  middle = pieces_if (end_around r.start).has_number (separator_pieces r.format.separator r.spaced);
  end = pieces_if (end_around r.start).has_number (end_number r.end);
  suffix = (end_around r.start).suffix;
}
inner_pieces Apart r = record {
  prefix = [];
  start = within (end_around r.start) (end_number r.start);
  middle = separator_pieces r.format.separator r.spaced;
  end = within (end_around r.end) (end_number r.end);
  suffix = [];
}

-- pieces with what is around the whole text, which begins after the prefix and may be instead of the rest
abbrev pub with_outer : Around → RangePieces → RangePieces
with_outer u p = record {
  prefix = p.prefix ++ u.prefix;
  start = pieces_if u.has_number p.start;
  middle = pieces_if u.has_number p.middle;
  end = pieces_if u.has_number p.end;
  suffix = pieces_if u.has_number p.suffix ++ u.suffix;
}

-- the pieces of a range
abbrev pub range_pieces : ShownRange → RangePieces
range_pieces r = with_outer (outer_by r.start.formatter r.category) (inner_pieces r.form r)

-- the text of the pieces, one after another
abbrev pub text_of_pieces : RangePieces → List ℕ
text_of_pieces p =
    pieces_text p.prefix
    ++ (pieces_text p.start ++ (pieces_text p.middle ++ (pieces_text p.end ++ pieces_text p.suffix)))

-- a text has a first part, and after it a second one
pub record HasBoth (text first second : List ℕ) : Type 0 where
  pub before : List ℕ
  pub between : List ℕ
  pub after : List ℕ
  pub is : text ≡ before ++ (first ++ (between ++ (second ++ after)))

-- the plural category of an approximate number is its own, and that of two numbers is the one that the language has for
-- a range of their categories
abbrev pub range_category : List ℕ → RangeForm → PluralCategory → PluralCategory → PluralCategory
range_category tag Approximate start end = start
range_category tag other start end = plural_range_category tag start end

-- the range of two ends, and of the categories of the two numbers
abbrev pub range_by : RangeTexts → RangeForm → RangeEnd → RangeEnd → PluralCategory → PluralCategory → ShownRange
range_by t form start end start_category end_category = record {
  start = start;
  end = end;
  format = t.format;
  form = form;
  spaced = needs_spaces form start;
  category = range_category t.tag.now form start_category end_category;
}

-- a range is that of two numbers: its ends are these as if each was written alone, and its form, separator and spaces
-- are those of both; of its category only what it writes around the text has to be that of theirs
pub record IsRange (f : NumberFormatter) (t : RangeTexts) (v w : Decimal) (r : ShownRange) : Type 0 where
  pub start_is : IsRangeEnd f v r.start
  pub end_is : IsRangeEnd f w r.end
  pub form_is : r.form ≡ range_form v w r.start r.end
  pub format_is : r.format ≡ t.format
  pub spaced_is : r.spaced ≡ needs_spaces r.form r.start
  pub outer_is : outer_by f r.category ≡ outer_by f (range_category t.tag.now r.form start_is.whole end_is.whole)

-- the text of the range of two numbers
abbrev pub IsRangeText : NumberFormatter → RangeTexts → Decimal → Decimal → List ℕ → Type 0
IsRangeText f t v w text = (r : ShownRange) × IsRange f t v w r × (text ≡ text_of_pieces (range_pieces r))

-- ---- Errors.

-- why the range of two numbers is not formatted, by an error of the start or of the end: the number is shown beyond the
-- limits; or it needs memory, or a copy of the start does. By an error of the end the start is within the limits
abbrev pub RangeFormattingFails : NumberFormatter → Decimal → Decimal → Bool → RoundError → Type 0
RangeFormattingFails f v w false RoundError.Limit = shown_number f v ≡ None
RangeFormattingFails f v w false RoundError.Memory = IsLong INLINE_DIGITS v ⊎ FormattingNeedsMemory f v
RangeFormattingFails f v w true RoundError.Limit = IsSome (shown_number f v) × (shown_number f w ≡ None)
RangeFormattingFails f v w true RoundError.Memory = IsSome (shown_number f v) × FormattingNeedsMemory f w
