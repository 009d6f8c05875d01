-- Formatters that C keeps.
use Rattle.std.specs.{Prelude.{◌≡◌, ◌⊎◌, ℕ, Bool, List, replicate, pos, Some, Result, Ok, Err}, Str.IsUtf8}
use Rattle.locale_data.specs.Locales.{system_name_at}
use Rattle.number_format.specs.{declared.{format.{ids.FormatterIds.FormatterIds, formatter.NumberFormatter.NumberFormatter}, options.NumberOptions.NumberOptions}, Formatters.{AreIdsOf, IsFormatterAt, LacksRows}}
use Rattle.fixed_decimal_c.specs.{declared.{answer.FdColumn.FdColumn, error.FdError.{FdError, TheVariants.Formatter}, format_options.FdFormatOptions.FdFormatOptions, format_rows.{FdFormatRows.FdFormatRows, FdOuterRows.FdOuterRows}, formatter.{FdFormatter.FdFormatter, FdMade.FdMade, FdResolution.FdResolution}, number_options.FdNumberOptions.FdNumberOptions}, Errors.{status_of, place_of}, FormatOptions.{padded_name, AreFormatOptions}, FormatRows.AreRows, Formats.FormatsIfMade, KeptTags.kept_tag, Lines.FormatsColumnIfMade, NumberOptions.AreNumberOptions, NumberReadings.ReadsIfMade, NumberTexts.{AreOptionsOf, FormatterByFails, FormatterFails}}

-- ---- What C keeps.

-- the formatter of the rows and the options that C has
abbrev pub IsFormatterIn : FdFormatter → NumberFormatter → Type 0
IsFormatterIn c f =
    (ids : FormatterIds) × (o : NumberOptions) × AreRows c.rows ids × AreFormatOptions c.options o
    × IsFormatterAt ids o f

-- C has no rows, or no options, or rows that the tables lack
abbrev pub IsNoFormatter : FdFormatter → Type 0
IsNoFormatter c =
    ((ids : FormatterIds) → AreRows c.rows ids → ⊥)
    ⊎ (((o : NumberOptions) → AreFormatOptions c.options o → ⊥)
    ⊎ ((ids : FormatterIds) × AreRows c.rows ids × LacksRows ids))

-- that formatter; or the error that there is none
abbrev pub IsKept : Result NumberFormatter FdError → FdFormatter → Type 0
IsKept (Ok f) c = IsFormatterIn c f
IsKept (Err error) c = (error ≡ Formatter) × IsNoFormatter c

-- ---- Making.

-- C has the rows of a tag and options, which the tables have, and the options and the tag
abbrev pub Keeps : List ℕ → NumberOptions → FdFormatter → Type 0
Keeps tag o c =
    IsUtf8 tag × (c.tag ≡ kept_tag tag)
    × ((ids : FormatterIds) × AreIdsOf tag o ids × (LacksRows ids → ⊥) × AreRows c.rows ids
    × AreFormatOptions c.options o)

-- those of the options that C passes; or why there is no such formatter
abbrev pub MakesByOptions : Result FdFormatter FdError → List ℕ → FdNumberOptions → Type 0
MakesByOptions (Ok c) tag options = (o : NumberOptions) × AreNumberOptions options o × Keeps tag o c
MakesByOptions (Err error) tag options = FormatterByFails error tag options

-- the same by a skeleton
abbrev pub MakesBySkeleton : Result FdFormatter FdError → List ℕ → List ℕ → Type 0
MakesBySkeleton (Ok c) tag skeleton = (o : NumberOptions) × AreOptionsOf skeleton o × Keeps tag o c
MakesBySkeleton (Err error) tag skeleton = FormatterFails error tag skeleton

-- ---- Using.

-- the options of the formatter, with the digits that it shows and the name of the numbering system of its rows
abbrev pub AreResolved : FormatterIds → NumberFormatter → FdFormatOptions → Type 0
AreResolved ids f c =
    (options : FdFormatOptions) × (name : List ℕ) × AreFormatOptions options (record f.options { digits = f.digits })
    × (system_name_at ids.symbols ≡ Some name)
    × (c ≡ record options { numbering_system = padded_name name; has_numbering_system = 1 })

-- those of the formatter that C keeps; or the error that there is none
abbrev pub IsResolved : Result FdFormatOptions FdError → FdFormatter → Type 0
IsResolved (Ok options) c =
    (ids : FormatterIds) × (o : NumberOptions) × (f : NumberFormatter) × AreRows c.rows ids
    × AreFormatOptions c.options o × IsFormatterAt ids o f × AreResolved ids f options
IsResolved (Err error) c = (error ≡ Formatter) × IsNoFormatter c

-- the decimal that a text is is written by the formatter that C keeps
abbrev pub FormatsKept : Result ℕ FdError → FdFormatter → List ℕ → List ℕ → List ℕ → Type 0
FormatsKept answer c text old new =
    (made : Result NumberFormatter FdError) × IsKept made c × FormatsIfMade made answer text old new

-- the same of each line of a column
abbrev pub FormatsColumn : FdColumn → FdFormatter → List ℕ → Bool → List ℕ → List ℕ → Type 0
FormatsColumn answer c input skip old new =
    (made : Result NumberFormatter FdError) × IsKept made c × FormatsColumnIfMade made answer input skip old new

-- a text is read as the formatter that C keeps writes it
abbrev pub ReadsKept : Result ℕ FdError → FdFormatter → List ℕ → Bool → List ℕ → List ℕ → Type 0
ReadsKept answer c text lenient old new =
    (made : Result NumberFormatter FdError) × IsKept made c × ReadsIfMade made lenient answer text old new

-- ---- Answers, as C receives them.

abbrev pub no_outer : FdOuterRows
no_outer = record { kind = 0; texts = 0; patterns = 0; joiner = 0; code = replicate 3 0 }

-- the rows with all fields 0
abbrev pub no_rows : FdFormatRows
no_rows = record {
  locale = 0;
  plural_rules = 0;
  currency = 0;
  symbol = 0;
  narrow_symbol = 0;
  currency_pattern = 0;
  percent = 0;
  standard = 0;
  accounting = 0;
  signs = 0;
  compact = 0;
  percent_unit = 0;
  money = 0;
  reserved = replicate 3 0;
  outer = no_outer;
}

-- the options with all fields 0
abbrev pub no_options : FdFormatOptions
no_options = record {
  minimum_significant_digits = 0;
  maximum_significant_digits = 0;
  scale = pos 0;
  exponent_digits = 0;
  minimum_integer_digits = 0;
  maximum_integer_digits = 0;
  minimum_fraction_digits = 0;
  maximum_fraction_digits = 0;
  rounding_increment = 0;
  style = 0;
  currency = replicate 3 0;
  numbering_system = replicate 16 0;
  currency_display = 0;
  currency_sign = 0;
  currency_usage = 0;
  unit = 0;
  per_unit = 0;
  unit_display = 0;
  notation = 0;
  exponent_sign = 0;
  sign_display = 0;
  grouping = 0;
  decimal_separator = 0;
  precision = 0;
  zeros = 0;
  rounding_mode = 0;
  trailing_zeros = 0;
  has_numbering_system = 0;
  group_sizes = 0;
  per_display = 0;
  reserved = replicate 28 0;
}

abbrev pub no_formatter : FdFormatter
no_formatter = record { rows = no_rows; options = no_options; tag = replicate 16 0 }

-- an answer that is a formatter
abbrev pub fd_made : Result FdFormatter FdError → FdMade
fd_made (Ok c) = record { status = 0; at = 0; formatter = c }
fd_made (Err error) = record { status = status_of error; at = place_of error; formatter = no_formatter }

-- an answer that is the options of a formatter
abbrev pub fd_resolution : Result FdFormatOptions FdError → FdResolution
fd_resolution (Ok options) = record { status = 0; options = options }
fd_resolution (Err error) = record { status = status_of error; options = no_options }

-- C receives an answer of which P holds
abbrev pub EncodesResolution : FdResolution → (Result FdFormatOptions FdError → Type 0) → Type 0
EncodesResolution r P = (answer : Result FdFormatOptions FdError) × (r ≡ fd_resolution answer) × P answer

abbrev pub EncodesMade : FdMade → (Result FdFormatter FdError → Type 0) → Type 0
EncodesMade r P = (answer : Result FdFormatter FdError) × (r ≡ fd_made answer) × P answer
