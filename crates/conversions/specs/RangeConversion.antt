-- The outcome of a conversion on the texts of a range, and its errors.
use Rattle.std.specs.Prelude.{◌≡◌, ◌⊎◌, ℕ, List, Ok}
use Rattle.fixed_decimal.specs.Decimal.{Decimal}
use Rattle.conversions.specs.{declared.{error.{OperationError.{OperationError, TheVariants.{FormatOverflow, Memory, Output}}, RangeError.{RangeError, TheVariants.{Operation, End}}}, range_conversion.RangeConversion.RangeConversion}, Conversion.{IsLast, LastIsError, LastNeedsMemory}, RangeText.{IsRangeTextBy, HasRangeTextBy, RangeWritingFails}}

-- the decimal after the calls on a text
abbrev pub IsEnd : RangeConversion → List ℕ → Decimal → Type 0
IsEnd c text v = IsLast c.reader c.calls.items text (Ok v)

-- P holds of the decimals after the calls on both texts
abbrev pub HasEnds : RangeConversion → List ℕ → List ℕ → (Decimal → Decimal → Type 0) → Type 0
HasEnds c start end P = (v : Decimal) × (w : Decimal) × IsEnd c start v × IsEnd c end w × P v w

-- P holds of the text that the conversion makes of the texts of a range: that of the range of both decimals
abbrev pub HasRangeOutcome : RangeConversion → List ℕ → List ℕ → (List ℕ → Type 0) → Type 0
HasRangeOutcome c start end P = HasEnds c start end (λ v w. HasRangeTextBy c.formatter v w P)

-- ---- Errors.

-- the start has a decimal after the calls, and P holds
abbrev pub AfterStart : RangeConversion → List ℕ → Type 0 → Type 0
AfterStart c start P = ((v : Decimal) × IsEnd c start v) × P

-- the error of the range with an error of the end: out of memory is no error of a text
abbrev pub IsErrorOfEnd : OperationError → RangeError → Type 0
IsErrorOfEnd Memory error = error ≡ Operation Memory
IsErrorOfEnd why error = error ≡ End why

-- the error is the first one: of the text of the start, or of a call on it; of the end; or of the text of the range; or
-- out of memory, where one of these may need it; or a failed output of a text
abbrev pub RangeFails : RangeError → RangeConversion → List ℕ → List ℕ → Type 0
RangeFails (Operation FormatOverflow) c start end = HasEnds c start end (RangeWritingFails FormatOverflow c.formatter)
RangeFails (Operation Memory) c start end =
    LastNeedsMemory c.reader c.calls.items start
    ⊎ (AfterStart c start (LastNeedsMemory c.reader c.calls.items end)
    ⊎ HasEnds c start end (RangeWritingFails Memory c.formatter))
RangeFails (Operation Output) c start end = HasEnds c start end (RangeWritingFails Output c.formatter)
RangeFails (Operation error) c start end = LastIsError c.reader c.calls.items start error
RangeFails (End error) c start end = AfterStart c start (LastIsError c.reader c.calls.items end error)
