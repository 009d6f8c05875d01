-- The texts that a reader reads.
use Rattle.std.specs.{Prelude.{List, ℕ, Result, Ok, Err}, Str.IsUtf8}
use Rattle.decimal_unsigned.specs.{Reading.{ReadError, syntax, limit}, Unsigned.IsValue, declared.{decimal.TheConstants.INLINE_DIGITS, error.ParseError.ParseError}}
use Rattle.decimal_unsigned.specs.declared.error.ParseError.TheVariants as parse
use Rattle.fixed_decimal.specs.Decimal.{Decimal}
use Rattle.decimal_format.specs.{Symbols.Symbols, Reading.{Numeral, IsNumeral, IsBeyondLimits, IsWritten, NeedsMemory}, Lenient.{IsTyped, IsTypedNumeral}}
use Rattle.number_format.specs.{NumberReading.{NumberReader, IsReadInMode}, declared.read.number_reader.ParseMode.{ParseMode, TheVariants.{Strict, Lenient}}}

-- ---- By the symbols of a locale.

-- the text is that of a decimal, exactly or as people type it
abbrev pub IsTextIn : ParseMode → Symbols → Decimal → List ℕ → Type 0
IsTextIn Strict s v text = IsWritten s v text
IsTextIn Lenient s v text = IsUtf8 text × IsTyped s v text

-- the same for a numeral of any number of digits
abbrev pub IsNumeralIn : ParseMode → Symbols → Numeral → List ℕ → Type 0
IsNumeralIn Strict s w text = IsNumeral s text w
IsNumeralIn Lenient s w text = IsUtf8 text × IsTypedNumeral s text w

-- the text is read as this: a decimal with this text; or it is that of no numeral, or of one with too many digits
abbrev pub IsReadIn : ParseMode → Symbols → List ℕ → Result Decimal ReadError → Type 0
IsReadIn mode s text (Ok v) = IsValue v.absolute × IsTextIn mode s v text
IsReadIn mode s text (Err syntax) = (w : Numeral) → ¬ IsNumeralIn mode s w text
IsReadIn mode s text (Err limit) = (w : Numeral) × IsNumeralIn mode s w text × IsBeyondLimits w

-- the value of the text needs memory
abbrev pub NeedsMemoryIn : ParseMode → Symbols → List ℕ → Type 0
NeedsMemoryIn mode s text =
    (v : Decimal) × IsValue v.absolute × IsTextIn mode s v text × NeedsMemory INLINE_DIGITS v.absolute

-- reading may fail with this error
abbrev pub ReadingFailsIn : ParseMode → Symbols → List ℕ → ParseError → Type 0
ReadingFailsIn mode s text parse.Syntax = IsReadIn mode s text (Err syntax)
ReadingFailsIn mode s text parse.Limit = IsReadIn mode s text (Err limit)
ReadingFailsIn mode s text parse.Memory = NeedsMemoryIn mode s text

-- ---- By a number skeleton.

-- the text is read as this by the reader of a formatter
abbrev pub IsNumberRead : ParseMode → NumberReader → List ℕ → Result Decimal ReadError → Type 0
IsNumberRead mode r text (Ok v) = IsReadInMode INLINE_DIGITS mode r text (Ok v)
IsNumberRead mode r text (Err syntax) = IsReadInMode INLINE_DIGITS mode r text (Err parse.Syntax)
IsNumberRead mode r text (Err limit) = IsReadInMode INLINE_DIGITS mode r text (Err parse.Limit)

-- reading may fail with this error
abbrev pub NumberReadingFails : ParseMode → NumberReader → List ℕ → ParseError → Type 0
NumberReadingFails mode r text error = IsReadInMode INLINE_DIGITS mode r text (Err error)
