-- The forms in which a text is read and written.
use Rattle.std.specs.{Prelude.{◌≡◌, ◌≢◌, ℕ, ◌⊎◌, List, Option, Some, None}, Str.IsUtf8}
use Rattle.decimal_format.specs.Symbols.{Symbols}
use Rattle.locale_data.specs.Locales.{IsLocale, IsUnknown}
use Rattle.conversions.specs.declared.{locale_formatter.LocaleFormatter.{LocaleFormatter, TheVariants.{AllDigits, Skeleton}}, reader.LocaleReader.{LocaleReader, TheVariants.{Decimals, Numbers}}}
use Rattle.number_format.specs.{NumberReading.{CanRead, NumberReader, number_reader_of}, declared.{format.formatter.NumberFormatter.NumberFormatter, read.number_reader.ParseMode.{ParseMode, TheVariants.{Strict, Lenient}}}}
use Rattle.fixed_decimal_c.specs.{declared.{error.FdError.{FdError, TheVariants.{UnknownLocale, UnknownOption, SkeletonSyntax}}, forms.FdForm.FdForm}, Calls.IsPart, Locales.symbols_of_number, NumberOptions.grouping_code, NumberReadings.HasNoReader, NumberTexts.{IsFormatterFor, FormatterFails}}

abbrev pub reading_code : ParseMode → ℕ
reading_code Strict = 0
reading_code Lenient = 1

-- the symbols of the locale whose tag is the part of the texts with this start and number of bytes
abbrev pub IsLocaleAt : List ℕ → ℕ → ℕ → Symbols → Type 0
IsLocaleAt texts start count s = (tag : List ℕ) × IsPart texts start count tag × IsLocale tag s

-- that part is not the tag of a locale
abbrev pub HasNoLocale : List ℕ → ℕ → ℕ → Type 0
HasNoLocale texts start count = (tag : List ℕ) → IsPart texts start count tag → IsUtf8 tag → IsUnknown tag

-- the symbols of a form: of the locale with its number, or with its tag, or none
abbrev pub AreSymbolsOf : FdForm → List ℕ → Option Symbols → Type 0
AreSymbolsOf form texts None = (form.locale ≡ 0) × (form.count ≡ 0)
AreSymbolsOf form texts (Some s) =
    ((form.locale ≢ 0) × (symbols_of_number form.locale ≡ Some s))
    ⊎ ((form.locale ≡ 0) × (form.count ≢ 0) × IsLocaleAt texts form.start form.count s)

-- the locale of a form is unknown
abbrev pub HasNoSymbols : FdForm → List ℕ → Type 0
HasNoSymbols form texts =
    ((form.locale ≢ 0) × (symbols_of_number form.locale ≡ None))
    ⊎ ((form.locale ≡ 0) × (form.count ≢ 0) × HasNoLocale texts form.start form.count)

-- the locale of a form is unknown, or no option has its code
abbrev pub FormFails : {A : Type 0} → (A → ℕ) → FdError → FdForm → List ℕ → Type 0
FormFails code UnknownLocale form texts = HasNoSymbols form texts
FormFails {A} code UnknownOption form texts =
    ((s : Symbols) × AreSymbolsOf form texts (Some s)) × ((option : A) → form.option ≡ code option → ⊥)
FormFails code error form texts = ⊥

-- a start and a number of bytes are no part of the texts
abbrev pub HasNoPart : List ℕ → ℕ → ℕ → Type 0
HasNoPart texts start count = (t : List ℕ) → IsPart texts start count t → ⊥

-- the formatter by the tag and the skeleton of a form
abbrev pub IsSkeletonFormatter : FdForm → List ℕ → NumberFormatter → Type 0
IsSkeletonFormatter form texts f =
    (tag : List ℕ) × (skeleton : List ℕ) × IsPart texts form.start form.count tag
    × IsPart texts form.skeleton_start form.skeleton_count skeleton × IsFormatterFor tag skeleton f

-- the tag is outside the texts, or a tag and a skeleton have no formatter
abbrev pub TagFails : FdError → FdForm → List ℕ → List ℕ → Type 0
TagFails error form texts skeleton =
    ((error ≡ UnknownLocale) × HasNoPart texts form.start form.count)
    ⊎ ((tag : List ℕ) × IsPart texts form.start form.count tag × FormatterFails error tag skeleton)

-- the skeleton is outside the texts, or there is no formatter by it
abbrev pub SkeletonFormFails : FdError → FdForm → List ℕ → Type 0
SkeletonFormFails error form texts =
    ((error ≡ SkeletonSyntax 0) × HasNoPart texts form.skeleton_start form.skeleton_count)
    ⊎ ((skeleton : List ℕ) × IsPart texts form.skeleton_start form.skeleton_count skeleton
    × TagFails error form texts skeleton)

-- the reader of that formatter, and the mode of a form
abbrev pub IsSkeletonReader : FdForm → List ℕ → NumberReader → ParseMode → Type 0
IsSkeletonReader form texts r mode =
    ((f : NumberFormatter) × IsSkeletonFormatter form texts f × CanRead f × (r ≡ number_reader_of f))
    × (form.option ≡ reading_code mode)

-- no mode has the code of a form, or one has and the formatter has no reader
abbrev pub ModeOrReaderFails : FdError → FdForm → NumberFormatter → Type 0
ModeOrReaderFails error form f =
    ((error ≡ UnknownOption) × ((mode : ParseMode) → form.option ≡ reading_code mode → ⊥))
    ⊎ (((mode : ParseMode) × (form.option ≡ reading_code mode)) × HasNoReader error f)

-- there is no such formatter, or one without such a mode or reader
abbrev pub SkeletonReaderFails : FdError → FdForm → List ℕ → Type 0
SkeletonReaderFails error form texts =
    SkeletonFormFails error form texts
    ⊎ ((f : NumberFormatter) × IsSkeletonFormatter form texts f × ModeOrReaderFails error form f)

-- what a form reads by: with a skeleton by it, else by its symbols; without either a text is a decimal's own
abbrev pub IsReaderOf : FdForm → List ℕ → Option LocaleReader → Type 0
IsReaderOf form texts None = (form.skeleton_count ≡ 0) × AreSymbolsOf form texts None
IsReaderOf form texts (Some (Decimals r)) =
    (form.skeleton_count ≡ 0) × AreSymbolsOf form texts (Some r.symbols) × (form.option ≡ reading_code r.mode)
IsReaderOf form texts (Some (Numbers r mode)) = (form.skeleton_count ≢ 0) × IsSkeletonReader form texts r mode

-- there is no such reader
abbrev pub ReaderFails : FdError → FdForm → List ℕ → Type 0
ReaderFails error form texts =
    ((form.skeleton_count ≡ 0) × FormFails reading_code error form texts)
    ⊎ ((form.skeleton_count ≢ 0) × SkeletonReaderFails error form texts)

-- what a form formats by: with a skeleton by it, else by its symbols; without either a decimal is its own text
abbrev pub IsFormatterOf : FdForm → List ℕ → Option LocaleFormatter → Type 0
IsFormatterOf form texts None = (form.skeleton_count ≡ 0) × AreSymbolsOf form texts None
IsFormatterOf form texts (Some (AllDigits f)) =
    (form.skeleton_count ≡ 0) × AreSymbolsOf form texts (Some f.symbols) × (form.option ≡ grouping_code f.strategy)
IsFormatterOf form texts (Some (Skeleton f)) = (form.skeleton_count ≢ 0) × IsSkeletonFormatter form texts f

-- there is no such formatter
abbrev pub FormatFormFails : FdError → FdForm → List ℕ → Type 0
FormatFormFails error form texts =
    ((form.skeleton_count ≡ 0) × FormFails grouping_code error form texts)
    ⊎ ((form.skeleton_count ≢ 0) × SkeletonFormFails error form texts)
