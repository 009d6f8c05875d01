-- The outcome of a conversion on a text, and its errors.
use Rattle.std.specs.Prelude.{◌≡◌, ◌⊎◌, ◌&&◌, List, ℕ, Bool, Option, Some, None, is_none, Result, Ok, Err, IsOkAnd}
use Rattle.decimal_unsigned.specs.{Reading.{ReadError, syntax, limit}, declared.{decimal.TheConstants.INLINE_DIGITS, error.ParseError.ParseError}}
use Rattle.decimal_unsigned.specs.declared.error.ParseError.TheVariants as parse
use Rattle.fixed_decimal.specs.{Decimal.Decimal, DecimalText.{decimal_text, read_decimal, IsLong, and_then}, Outcome.{OutcomeError, started, after_calls, outcome, start, operand, overlap, limit_exceeded}, Calls.CallsFail, Errors.run_error, declared.runs.{Call.Call, CallError.CallError}}
use Rattle.decimal_format.specs.Formatted.{formatted}
use Rattle.number_format.specs.NumberText.{IsNumberText, WritingNeedsMemory, shown_number}
use Rattle.conversions.specs.{declared.{conversion.Conversion.Conversion, locale_formatter.LocaleFormatter.{LocaleFormatter, TheVariants.{AllDigits, Skeleton}}, reader.LocaleReader.{LocaleReader, TheVariants.{Decimals, Numbers}}, error.OperationError.{OperationError, TheVariants.{Start, Operand, Overlap, Overflow, FormatOverflow, Memory, Output}}}, Error.error_of_run, Reader.{IsReadIn, NeedsMemoryIn, IsNumberRead, NumberReadingFails}}
use Rattle.conversions.specs.declared.error.Reason.TheVariants as reason

-- ---- Reading.

-- the text is read as this by a reader, and without one as a decimal's own text
abbrev pub IsReadBy : Option LocaleReader → List ℕ → Result Decimal ReadError → Type 0
IsReadBy None text result = result ≡ read_decimal text
IsReadBy (Some (Decimals reader)) text result = IsReadIn reader.mode reader.symbols text result
IsReadBy (Some (Numbers reader mode)) text result = IsNumberRead mode reader text result

-- reading may need memory
abbrev pub ReadingByNeedsMemory : Option LocaleReader → List ℕ → Type 0
ReadingByNeedsMemory None text = IsOkAnd (read_decimal text) (IsLong INLINE_DIGITS)
ReadingByNeedsMemory (Some (Decimals reader)) text = NeedsMemoryIn reader.mode reader.symbols text
ReadingByNeedsMemory (Some (Numbers reader mode)) text = NumberReadingFails mode reader text parse.Memory

-- reading may fail with this error
abbrev pub ReadingByFails : Option LocaleReader → List ℕ → ParseError → Type 0
ReadingByFails reader text parse.Syntax = IsReadBy reader text (Err syntax)
ReadingByFails reader text parse.Limit = IsReadBy reader text (Err limit)
ReadingByFails reader text parse.Memory = ReadingByNeedsMemory reader text

-- ---- The text of a decimal.

-- why a conversion has no text: the error of the run; or the number to be formatted is beyond the limits
pub data ConversionError : Type 0 where
  of_run : OutcomeError → ConversionError
  format_overflow : ConversionError

-- the text of a decimal by a formatter, and without one its own; or the error. By a skeleton it is scaled, rounded and
-- written as a number
abbrev pub IsTextBy : Option LocaleFormatter → Decimal → Result (List ℕ) ConversionError → Type 0
IsTextBy None v result = result ≡ Ok (decimal_text v)
IsTextBy (Some (AllDigits f)) v result = result ≡ Ok (formatted f.symbols f.strategy v)
IsTextBy (Some (Skeleton f)) v (Ok text) = IsNumberText f v text
IsTextBy (Some (Skeleton f)) v (Err format_overflow) = shown_number f v ≡ None
IsTextBy (Some (Skeleton f)) v (Err (of_run why)) = ⊥

-- P holds of the text of a decimal
abbrev pub HasTextBy : Option LocaleFormatter → Decimal → (List ℕ → Type 0) → Type 0
HasTextBy formatter v P = (text : List ℕ) × IsTextBy formatter v (Ok text) × P text

-- formatting may need memory
abbrev pub FormattingNeedsMemory : Option LocaleFormatter → Decimal → Type 0
FormattingNeedsMemory (Some (Skeleton f)) v = WritingNeedsMemory f v
FormattingNeedsMemory formatter v = ⊥

-- writing the text of a decimal may fail with this error
abbrev pub WritingFails : OperationError → Option LocaleFormatter → Decimal → Type 0
WritingFails FormatOverflow formatter v = IsTextBy formatter v (Err format_overflow)
WritingFails Memory formatter v = FormattingNeedsMemory formatter v
WritingFails Output formatter v = (text : List ℕ) × IsTextBy formatter v (Ok text)
WritingFails error formatter v = ⊥

-- ---- The outcome.

-- the decimal after the calls on what was read, or the first error
abbrev pub last_decimal : List Call → Result Decimal ReadError → Result Decimal OutcomeError
last_decimal calls read = and_then (started read) (λ v. after_calls 0 v calls)

-- the decimal after the calls on a text, or the first error
abbrev pub IsLast : Option LocaleReader → List Call → List ℕ → Result Decimal OutcomeError → Type 0
IsLast reader calls text last =
    (read : Result Decimal ReadError) × IsReadBy reader text read × (last_decimal calls read ≡ last)

-- the own text of a decimal, or the error before
abbrev pub own_text : Result Decimal OutcomeError → Result (List ℕ) OutcomeError
own_text last = and_then last (λ w. Ok (decimal_text w))

-- the text of a decimal by a formatter, or the error before
abbrev pub IsFormatted : Option LocaleFormatter → Result Decimal OutcomeError → Result (List ℕ) ConversionError → Type 0
IsFormatted formatter (Ok v) result = IsTextBy formatter v result
IsFormatted formatter (Err why) result = result ≡ Err (of_run why)

-- the outcome of a text
pub record IsOutcome (c : Conversion) (text : List ℕ) (result : Result (List ℕ) ConversionError) : Type 0 where
  pub read : Result Decimal ReadError
  pub is_read : IsReadBy c.reader text read
  pub is : IsFormatted c.formatter (last_decimal c.calls.items read) result

-- P holds of the text that the conversion makes of a text
abbrev pub HasOutcome : Conversion → List ℕ → (List ℕ → Type 0) → Type 0
HasOutcome c text P = (written : List ℕ) × IsOutcome c text (Ok written) × P written

-- there is no reader and no formatter
abbrev pub is_plain : Conversion → Bool
is_plain c = is_none c.reader && is_none c.formatter

-- ---- Errors.

-- an error of an outcome as an error of the programs
abbrev pub error_of : ConversionError → OperationError
error_of (of_run (start syntax)) = Start reason.Syntax
error_of (of_run (start limit)) = Start reason.Limit
error_of (of_run (operand at syntax)) = Operand at reason.Syntax
error_of (of_run (operand at limit)) = Operand at reason.Limit
error_of (of_run (overlap at)) = Overlap at
error_of (of_run (limit_exceeded at)) = Overflow at
error_of format_overflow = FormatOverflow

-- the calls on a decimal may need memory
abbrev pub CallsNeedMemory : Decimal → List Call → Type 0
CallsNeedMemory v calls =
    (why : CallError) × CallsFail INLINE_DIGITS why v calls × (error_of_run (run_error why) ≡ Memory)

-- the error of a text or of a call on its decimal
abbrev pub LastIsError : Option LocaleReader → List Call → List ℕ → OperationError → Type 0
LastIsError reader calls text error =
    (why : OutcomeError) × (error ≡ error_of (of_run why)) × IsLast reader calls text (Err why)

-- reading a text, or the calls on its decimal, may need memory
abbrev pub LastNeedsMemory : Option LocaleReader → List Call → List ℕ → Type 0
LastNeedsMemory reader calls text =
    ReadingByNeedsMemory reader text
    ⊎ ((v : Decimal) × IsReadBy reader text (Ok v) × CallsNeedMemory v calls)

-- reading a text, or the calls on its decimal, may fail with this error
abbrev pub LastFails : OperationError → Option LocaleReader → List Call → List ℕ → Type 0
LastFails Memory reader calls text = LastNeedsMemory reader calls text
LastFails Output reader calls text = ⊥
LastFails error reader calls text = LastIsError reader calls text error

-- the error is that of the outcome; or out of memory, where reading, a call or formatting may need it; or a failed
-- output of a text
abbrev pub OperationsFail : OperationError → Conversion → List ℕ → Type 0
OperationsFail Memory c text =
    LastNeedsMemory c.reader c.calls.items text
    ⊎ ((v : Decimal) × IsLast c.reader c.calls.items text (Ok v) × FormattingNeedsMemory c.formatter v)
OperationsFail Output c text = (written : List ℕ) × IsOutcome c text (Ok written)
OperationsFail error c text = (why : ConversionError) × (error ≡ error_of why) × IsOutcome c text (Err why)

-- ---- The law.

-- without a reader: the run writes the last decimal by its own text, and the conversion by the formatter
abbrev pub IsRunFormatted : Conversion → List ℕ → Result (List ℕ) ConversionError → Type 0
IsRunFormatted c text result =
    (outcome text c.calls.items ≡ own_text (last_decimal c.calls.items (read_decimal text)))
    × IsFormatted c.formatter (last_decimal c.calls.items (read_decimal text)) result
