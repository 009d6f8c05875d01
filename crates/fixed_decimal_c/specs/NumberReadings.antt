-- Numbers as a locale writes them by options or a number skeleton, read.
use Rattle.std.specs.Prelude.{◌≡◌, ℕ, ◌⊎◌, List, Bool, true, false, Result, Ok, Err}
use Rattle.decimal_unsigned.specs.declared.{decimal.TheConstants.INLINE_DIGITS, error.ParseError.ParseError}
use Rattle.fixed_decimal.specs.{Decimal.Decimal, DecimalText.decimal_text}
use Rattle.number_format.specs.{NumberReading.{CanRead, CannotRead, number_reader_of, IsReadInMode}, declared.{format.formatter.NumberFormatter.NumberFormatter, read.number_reader.{NumberReaderError.NumberReaderError, ParseMode.{ParseMode, TheVariants.{Strict, Lenient}}}}}
use Rattle.number_format.specs.declared.read.number_reader.NumberReaderError.TheVariants as made
use Rattle.fixed_decimal_c.specs.{declared.{error.FdError.{FdError, TheVariants.{Memory, UnreadableFormat}}, number_options.FdNumberOptions.FdNumberOptions}, Errors.error_of_parsing, NumberTexts.{IsMade, IsMadeBySkeleton}, Texts.{Writes, WritesNothing}}

abbrev pub error_of_reader : NumberReaderError → FdError
error_of_reader made.Memory = Memory
error_of_reader other = UnreadableFormat

-- the texts of the formatter cannot be read; or out of memory
abbrev pub HasNoReader : FdError → NumberFormatter → Type 0
HasNoReader error f = (e : NumberReaderError) × (error ≡ error_of_reader e) × CannotRead e f

abbrev pub parse_mode : Bool → ParseMode
parse_mode false = Strict
parse_mode true = Lenient

-- the own text of a decimal that was read is written; or reading failed, and the buffer is as it was
abbrev pub WritesRead : Result Decimal ParseError → Result ℕ FdError → List ℕ → List ℕ → Type 0
WritesRead (Ok v) answer old new = Writes answer (decimal_text v) old new
WritesRead (Err e) answer old new = (answer ≡ Err (error_of_parsing e 0)) × (new ≡ old)

-- a text is read by the reader of the formatter, and its decimal written; or there is no reader, and the buffer is as
-- it was
abbrev pub ReadsText : NumberFormatter → Bool → Result ℕ FdError → List ℕ → List ℕ → List ℕ → Type 0
ReadsText f lenient answer text old new =
    ((read : Result Decimal ParseError) × CanRead f
    × IsReadInMode INLINE_DIGITS (parse_mode lenient) (number_reader_of f) text read × WritesRead read answer old new)
    ⊎ WritesNothing (λ error. HasNoReader error f) answer old new

-- the same, if there is a formatter; or its error is the answer, and the buffer is as it was
abbrev pub ReadsIfMade :
    Result NumberFormatter FdError → Bool → Result ℕ FdError → List ℕ → List ℕ → List ℕ → Type 0
ReadsIfMade (Ok f) lenient answer text old new = ReadsText f lenient answer text old new
ReadsIfMade (Err error) lenient answer text old new = (answer ≡ Err error) × (new ≡ old)

-- the same by the locale and the options
abbrev pub ReadsNumber : Result ℕ FdError → List ℕ → List ℕ → FdNumberOptions → Bool → List ℕ → List ℕ → Type 0
ReadsNumber answer text tag options lenient old new =
    (made : Result NumberFormatter FdError) × IsMade made tag options × ReadsIfMade made lenient answer text old new

-- the same by the locale and the skeleton
abbrev pub ReadsBySkeleton : Result ℕ FdError → List ℕ → List ℕ → List ℕ → Bool → List ℕ → List ℕ → Type 0
ReadsBySkeleton answer text tag skeleton lenient old new =
    (made : Result NumberFormatter FdError) × IsMadeBySkeleton made tag skeleton
    × ReadsIfMade made lenient answer text old new
