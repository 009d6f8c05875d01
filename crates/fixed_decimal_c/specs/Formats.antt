-- Decimals, written to a buffer as a form has them.
use Rattle.std.specs.Prelude.{◌≡◌, ℕ, ◌⊎◌, List, Option, Some, Result, Ok, Err}
use Rattle.fixed_decimal.specs.{Decimal.Decimal, DecimalText.read_decimal}
use Rattle.number_format.specs.{declared.format.formatter.NumberFormatter.NumberFormatter, NumberText.FormattingNeedsMemory}
use Rattle.conversions.specs.{Conversion.{IsTextBy, format_overflow}, declared.locale_formatter.LocaleFormatter.{LocaleFormatter, TheVariants.Skeleton}}
use Rattle.fixed_decimal_c.specs.{declared.{error.FdError.{FdError, TheVariants.{Memory, Overflow}}, number_options.FdNumberOptions.FdNumberOptions}, Numbers.ParsingFails, NumberTexts.{IsMade, IsMadeBySkeleton}, Texts.{WritesNothing, WritesTo}}

-- formatting a number fails: it is shown beyond the limits, after `at` calls; or out of memory, where it needs it
abbrev pub FormatFails : FdError → Option LocaleFormatter → Decimal → ℕ → Type 0
FormatFails Memory (Some (Skeleton f)) v at = FormattingNeedsMemory f v
FormatFails (Overflow place) formatter v at = (place ≡ at) × IsTextBy formatter v (Err format_overflow)
FormatFails error formatter v at = ⊥

-- the text of a decimal by a formatter is written if it fits; or formatting fails
abbrev pub WritesBy : Option LocaleFormatter → Decimal → ℕ → Result ℕ FdError → List ℕ → List ℕ → Type 0
WritesBy formatter v at answer old new =
    WritesTo (λ text. IsTextBy formatter v (Ok text)) (λ error. FormatFails error formatter v at) answer old new

-- the decimal that a text is is written by a formatter; or it is none, and the buffer is as it was
abbrev pub FormatsText : NumberFormatter → Result ℕ FdError → List ℕ → List ℕ → List ℕ → Type 0
FormatsText f answer text old new =
    ((v : Decimal) × (read_decimal text ≡ Ok v) × WritesBy (Some (Skeleton f)) v 0 answer old new)
    ⊎ WritesNothing (λ error. ParsingFails error text 0) answer old new

-- the same, if there is a formatter; or its error is the answer, and the buffer is as it was
abbrev pub FormatsIfMade : Result NumberFormatter FdError → Result ℕ FdError → List ℕ → List ℕ → List ℕ → Type 0
FormatsIfMade (Ok f) answer text old new = FormatsText f answer text old new
FormatsIfMade (Err error) answer text old new = (answer ≡ Err error) × (new ≡ old)

-- the same by the locale and the options
abbrev pub FormatsNumber : Result ℕ FdError → List ℕ → List ℕ → FdNumberOptions → List ℕ → List ℕ → Type 0
FormatsNumber answer text tag options old new =
    (made : Result NumberFormatter FdError) × IsMade made tag options × FormatsIfMade made answer text old new

-- the same by the locale and the skeleton
abbrev pub FormatsBySkeleton : Result ℕ FdError → List ℕ → List ℕ → List ℕ → List ℕ → List ℕ → Type 0
FormatsBySkeleton answer text tag skeleton old new =
    (made : Result NumberFormatter FdError) × IsMadeBySkeleton made tag skeleton
    × FormatsIfMade made answer text old new
