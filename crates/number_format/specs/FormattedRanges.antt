-- The text of a formatted range.
use Rattle.std.specs.Prelude.{◌≡◌, ◌⊎◌, ℕ, List, ◌++◌, Option, Some}
use Rattle.fixed_decimal.specs.Decimal.{Decimal}
use Rattle.plural_rules.specs.declared.rules.PluralCategory.{PluralCategory}
use Rattle.locale_data.specs.{declared.locales.LocaleId.LocaleId, Locales.AreRowsOf, RangeFormats.IsRangeFormat}
use Rattle.number_format.specs.{declared.{format.{formatted_number.FormattedNumber.FormattedNumber, formatter.NumberFormatter.NumberFormatter}, range.{affixes.WideAffixes.WideAffixes, around.RangeAround.RangeAround, form.RangeForm.{RangeForm, TheVariants.{Approximate, Apart}}, formatted_range.{FormattedRange.FormattedRange, RangeSegment.{RangeSegment, TheVariants.{Prefix, Start, Middle, End, Suffix}}, RangeSource.{RangeSource, TheVariants.{Shared, StartRange, EndRange}}}, range_texts.RangeTexts.RangeTexts}}, Formatters.system_text, FormattedNumbers.{around_of, inner_text, number_text, outer_of, pattern_of, IsOuter}, NumberText.{exponent_of, outer_by, AreParts}, PatternTexts.Around, RangeText.{approximate_around, inner_pieces, range_by, range_category, separator_pieces, IsRangeEnd, RangeEnd, RangePieces, ShownRange, range_pieces, text_of_pieces}, TextParts.{Piece, parts_pieces, pieces_text}}

-- ---- The texts of a locale.

-- the tag, and its texts in the numbering system with a name, or else in that of the tag
pub record AreRangeTexts (tag : List ℕ) (name : Option (List ℕ)) (t : RangeTexts) : Type 0 where
  pub tag_is : t.tag.now ≡ tag
  pub id : LocaleId
  pub system : List ℕ
  pub rows : AreRowsOf tag id.locale id.system
  pub system_is : system_text id name ≡ Some system
  pub format_is : IsRangeFormat tag system t.format

-- ---- The text.

-- a formatted number as an end
abbrev pub end_of : FormattedNumber → RangeEnd
end_of n = record {
  formatter = n.formatter.now;
  digits = n.value.absolute;
  exponent = n.exponent;
  sign = n.value.sign;
  pattern = pattern_of n;
}

-- what is shown of a formatted range
abbrev pub shown_range : FormattedRange → ShownRange
shown_range t = record {
  start = end_of t.start;
  end = end_of t.end;
  format = t.format;
  form = t.form;
  spaced = t.spaced;
  category = t.start.whole;
}

-- the pieces of a segment
abbrev pub pieces_in : RangePieces → RangeSegment → List Piece
pieces_in p Prefix = p.prefix
pieces_in p Start = p.start
pieces_in p Middle = p.middle
pieces_in p End = p.end
pieces_in p Suffix = p.suffix

abbrev pub formatted_range_pieces : FormattedRange → RangeSegment → List Piece
formatted_range_pieces t = pieces_in (range_pieces (shown_range t))

-- to which number the parts of a segment belong
abbrev pub source_of : RangeSegment → RangeSource
source_of Start = StartRange
source_of End = EndRange
source_of other = Shared

-- the text: that of the segments
abbrev pub formatted_range_text : FormattedRange → List ℕ
formatted_range_text t = text_of_pieces (range_pieces (shown_range t))

-- ---- Private: used only in the contracts of private functions.

-- the parts are what is around a number
pub record AreWideAffixes (a : Around) (shown : WideAffixes) : Type 0 where
  pub prefix : parts_pieces shown.prefix ≡ a.prefix
  pub has_number : shown.has_number ≡ a.has_number
  pub suffix : parts_pieces shown.suffix ≡ a.suffix

-- the parts are what is around the approximate number of a range
abbrev pub AreApproximate : FormattedRange → WideAffixes → Type 0
AreApproximate t =
    AreWideAffixes
    (approximate_around t.start.formatter.now.style t.format.approximately t.start.value.sign (pattern_of t.start))

-- what is around the whole text and around the numbers, the exponents, and the separator
pub record IsRangeAround (t : FormattedRange) (shown : RangeAround) : Type 0 where
  pub outer : IsOuter (outer_of t.start) shown.outer
  pub start : AreParts (around_of t.start) shown.start
  pub start_exponent : shown.start_exponent ≡ exponent_of t.start.formatter.now.options.notation t.start.exponent
  pub end : AreParts (around_of t.end) shown.end
  pub end_exponent : shown.end_exponent ≡ exponent_of t.end.formatter.now.options.notation t.end.exponent
  pub approximate : t.form ≡ Approximate → AreApproximate t shown.approximate
  pub separator : parts_pieces shown.separator.parts ≡ separator_pieces t.format.separator t.spaced

-- the pieces of a segment without what is around the whole text, by a form
abbrev pub pieces_by : FormattedRange → RangeForm → RangeSegment → List Piece
pieces_by t form = pieces_in (inner_pieces form (shown_range t))

-- by its own form
abbrev pub inner_range_pieces : FormattedRange → RangeSegment → List Piece
inner_range_pieces t = pieces_by t t.form

-- the text of one of two numbers, with its own affixes or without any
abbrev pub one_text : RangeForm → FormattedNumber → List ℕ
one_text Apart n = inner_text n
one_text other n = number_text n

-- the text between the prefix and the suffix
abbrev pub numbers_text : FormattedRange → List ℕ
numbers_text t =
    pieces_text (inner_range_pieces t Start)
    ++ (pieces_text (inner_range_pieces t Middle) ++ pieces_text (inner_range_pieces t End))

-- the text of a segment
abbrev pub segment_text : FormattedRange → RangeSegment → List ℕ
segment_text t segment = pieces_text (formatted_range_pieces t segment)

-- a formatted number is an end of a range, and has the category of what is around the whole text
abbrev pub IsFormattedEnd : NumberFormatter → Decimal → FormattedNumber → Type 0
IsFormattedEnd f v n =
    (is : IsRangeEnd f v (end_of n)) × ((n.whole ≡ is.whole) ⊎ ((a b : PluralCategory) → outer_by f a ≡ outer_by f b))

-- a range of two ends; what is around the whole text is that of the category of their range
pub record IsShownBy (t : RangeTexts) (form : RangeForm) (m n : FormattedNumber) (r : ShownRange) : Type 0 where
  pub shown :
      let made = range_by t form (end_of m) (end_of n) m.whole n.whole in
      r ≡ record made { category = r.category }
  pub outer :
      outer_by m.formatter.now r.category
      ≡ outer_by m.formatter.now (range_category t.tag.now form m.whole n.whole)
