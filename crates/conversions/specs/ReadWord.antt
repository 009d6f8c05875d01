-- The reader that `read:LOCALE[:lenient][:SKELETON]` names.
use Rattle.std.specs.{Prelude.{◌≡◌, ◌≢◌, ◌⊎◌, ℕ, ⊤, if◌then◌else◌, List, [], codes, Option, Some, None}, Str.bytes_eq}
use Rattle.locale_data.specs.Locales.{IsLocale}
use Rattle.number_format.specs.{declared.{format.formatter.NumberFormatter.NumberFormatter, read.number_reader.ParseMode.{ParseMode, TheVariants.{Strict, Lenient}}}, NumberReading.{CanRead, NumberReader, number_reader_of}}
use Rattle.conversions.specs.{declared.{error.FormError.{FormError, TheVariants.{NoSuchWord, NoReader, Memory}}, reader.LocaleReader.{LocaleReader, TheVariants.{Decimals, Numbers}}}, FormatWord.{IsNumberFormatter, NumberFormatterFails, IsUnknownLocale}, Parameters.{tag_of, option_of, locale_tag, locale_option}, ShownWord.IsShown}

-- the mode and the skeleton of an option: `lenient`, `lenient:SKELETON`, or `SKELETON`
abbrev pub read_option : Option (List ℕ) → ParseMode × Option (List ℕ)
read_option None = (Strict, None)
read_option (Some option) =
    if bytes_eq (tag_of option) (codes "lenient") then (Lenient, option_of option) else (Strict, Some option)

-- the texts of the formatter by the tag and the skeleton are read, and this is its reader
abbrev pub IsNumberReader : List ℕ → List ℕ → NumberReader → Type 0
IsNumberReader tag text r =
    (f : NumberFormatter) × IsNumberFormatter tag text f × CanRead f × (r ≡ number_reader_of f)

-- `read:..` names this reader; without it there is none
abbrev pub NamesReader : Option (List ℕ) → Option LocaleReader → Type 0
NamesReader None None = ⊤
NamesReader (Some read) (Some (Decimals r)) =
    (read_option (locale_option read) ≡ (r.mode, None)) × IsLocale (locale_tag read) r.symbols
NamesReader (Some read) (Some (Numbers r mode)) =
    (text : List ℕ) × (read_option (locale_option read) ≡ (mode, Some text)) × (text ≢ [])
    × IsNumberReader (locale_tag read) text r
NamesReader _ _ = ⊥

-- ---- Errors.

-- the texts of the formatter are not read; or they are, and the program is out of memory for them
abbrev pub IsErrorOfReader : NumberFormatter → FormError → Type 0
IsErrorOfReader f NoReader = ¬ CanRead f
IsErrorOfReader f Memory = CanRead f
IsErrorOfReader f error = ⊥

-- the skeleton has no formatter in the locale; or it has one, and there is no reader
abbrev pub SkeletonReaderFails : List ℕ → List ℕ → FormError → Type 0
SkeletonReaderFails tag text error =
    NumberFormatterFails tag text error
    ⊎ ((f : NumberFormatter) × IsNumberFormatter tag text f × IsErrorOfReader f error)

-- the skeleton is empty
abbrev pub IsEmptySkeleton : List ℕ → List ℕ → FormError → Type 0
IsEmptySkeleton read text (NoSuchWord word) = (text ≡ []) × IsShown read word
IsEmptySkeleton read text error = ⊥

-- a word with this skeleton names no reader: without one, the locale is unknown; or it is empty, or has no reader
abbrev pub SkeletonFails : List ℕ → Option (List ℕ) → FormError → Type 0
SkeletonFails read None error = IsUnknownLocale (locale_tag read) error
SkeletonFails read (Some text) error =
    IsEmptySkeleton read text error ⊎ ((text ≢ []) × SkeletonReaderFails (locale_tag read) text error)

-- `read:..` names no reader
abbrev pub ReaderFails : Option (List ℕ) → FormError → Type 0
ReaderFails None error = ⊥
ReaderFails (Some read) error = SkeletonFails read (read_option (locale_option read)).1 error
