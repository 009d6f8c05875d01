-- Ranges of two decimals, as a formatter that C keeps writes them, and their plural categories.
use Rattle.std.specs.{Prelude.{◌≡◌, ◌⊎◌, ℕ, Bool, if◌then◌else◌, ℤ, pos, List, Some, Result, Ok, Err}, Str.IsUtf8}
use Rattle.decimal_digits.specs.declared.rounding.RoundError.{RoundError}
use Rattle.fixed_decimal.specs.{Decimal.Decimal, DecimalText.read_decimal}
use Rattle.plural_rules.specs.declared.rules.PluralCategory.{PluralCategory}
use Rattle.locale_data.specs.{Locales.IsUnknown, PluralRanges.plural_range_category, Plurals.HasNoRules, Rows.unpadded}
use Rattle.number_format.specs.{declared.{format.{ids.FormatterIds.FormatterIds, formatter.NumberFormatter.NumberFormatter}, options.NumberOptions.NumberOptions, range.range_texts.RangeTexts.RangeTexts}, Formatters.{system_text, IsRangeFormatterAt}, FormattedRanges.AreRangeTexts, RangeText.{IsRangeText, RangeFormattingFails}}
use Rattle.fixed_decimal_c.specs.{declared.{error.FdError.{FdError, TheVariants.{Formatter, UnknownLocale, UnknownOption}}, formatter.FdFormatter.FdFormatter}, Categories.category_code, FormatOptions.AreFormatOptions, FormatRows.AreRows, KeptFormatters.IsNoFormatter, Numbers.ParsingFails, NumberTexts.error_of_format, Texts.{WritesNothing, WritesTo}}

-- ---- The formatter, and the texts of ranges of its locale.

-- the formatter of ranges of the rows and the options that C has, and the texts of ranges of its tag, in the numbering
-- system of the options or else of the rows
abbrev pub IsRangeFormatterIn : FdFormatter → NumberFormatter → RangeTexts → Type 0
IsRangeFormatterIn c f t =
    (ids : FormatterIds) × (o : NumberOptions) × AreRows c.rows ids × AreFormatOptions c.options o
    × IsRangeFormatterAt ids o f × (system : List ℕ) × (system_text ids.symbols o.numbering_system ≡ Some system)
    × AreRangeTexts (unpadded c.tag) (Some system) t

-- C has no formatter, or no tag of a known locale
abbrev pub IsNoRangeFormatter : FdFormatter → Type 0
IsNoRangeFormatter c = IsNoFormatter c ⊎ (IsUtf8 (unpadded c.tag) → IsUnknown (unpadded c.tag))

-- ---- Errors.

-- the start is no decimal; or it is one, and the end is none
abbrev pub EndsFail : FdError → List ℕ → List ℕ → Type 0
EndsFail error start end =
    ParsingFails error start 0 ⊎ ((v : Decimal) × (read_decimal start ≡ Ok v) × ParsingFails error end 1)

-- the place of an error: 0 is that of the start, 1 that of the end
abbrev pub place_of_end : Bool → ℕ
place_of_end at_end = if at_end then 1 else 0

-- formatting a range fails
abbrev pub RangeFails : NumberFormatter → Decimal → Decimal → FdError → Type 0
RangeFails f v w error =
    (at_end : Bool) × (why : RoundError) × RangeFormattingFails f v w at_end why
    × (error ≡ error_of_format why (place_of_end at_end))

-- ---- Writing.

-- the range of the decimals that two texts are is written if it fits; or one of them is none, and the buffer is as it
-- was
abbrev pub WritesRange : NumberFormatter → RangeTexts → Result ℕ FdError → List ℕ → List ℕ → List ℕ → List ℕ → Type 0
WritesRange f t answer start end old new =
    ((v w : Decimal) × (read_decimal start ≡ Ok v) × (read_decimal end ≡ Ok w)
    × WritesTo (IsRangeText f t v w) (RangeFails f v w) answer old new)
    ⊎ WritesNothing (λ error. EndsFail error start end) answer old new

-- the same by the formatter that C keeps; or there is none, and the buffer is as it was
abbrev pub FormatsRange : Result ℕ FdError → FdFormatter → List ℕ → List ℕ → List ℕ → List ℕ → Type 0
FormatsRange answer c start end old new =
    ((f : NumberFormatter) × (t : RangeTexts) × IsRangeFormatterIn c f t × WritesRange f t answer start end old new)
    ⊎ WritesNothing (λ error. (error ≡ Formatter) × IsNoRangeFormatter c) answer old new

-- ---- Plural categories.

-- a number is that of no category
abbrev pub IsNoCategory : ℕ → Type 0
IsNoCategory number = (category : PluralCategory) → pos number ≡ category_code category → ⊥

-- the category of a range, by those of its start and its end with these numbers, in the language of a tag; or why there
-- is none
abbrev pub IsRangeCategory : Result ℤ FdError → List ℕ → ℕ → ℕ → Type 0
IsRangeCategory (Ok n) tag start end =
    (first second : PluralCategory) × (pos start ≡ category_code first) × (pos end ≡ category_code second)
    × IsUtf8 tag × (n ≡ category_code (plural_range_category tag first second))
IsRangeCategory (Err UnknownLocale) tag start end = IsUtf8 tag → HasNoRules tag
IsRangeCategory (Err UnknownOption) tag start end = IsNoCategory start ⊎ IsNoCategory end
IsRangeCategory (Err error) tag start end = ⊥
