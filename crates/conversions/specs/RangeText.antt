-- The text of the range of two decimals in the form of a locale.
use Rattle.std.specs.Prelude.{ℕ, Bool, List, Option, None}
use Rattle.decimal_digits.specs.declared.rounding.RoundError.{RoundError}
use Rattle.fixed_decimal.specs.{Decimal.Decimal, declared.variations.{Sign.Sign, SignDisplay.SignDisplay}}
use Rattle.number_format.specs.{declared.format.formatter.NumberFormatter.NumberFormatter, RangeText.{IsRangeText, RangeFormattingFails}}
use Rattle.conversions.specs.declared.{error.OperationError.{OperationError, TheVariants.{FormatOverflow, Memory, Output}}, range_formatter.{RangeFormatter.RangeFormatter, RangeNumbers.{RangeNumbers, TheVariants.{AllDigits, Skeleton}}, SignedFormatters.SignedFormatters}}

-- the display that shows two signs as they are; if one is a plus sign and the other none, each number but zero has a
-- sign
abbrev pub shown_signs : Sign → Sign → SignDisplay
shown_signs Sign.None Sign.Positive = SignDisplay.ExceptZero
shown_signs Sign.Positive Sign.None = SignDisplay.ExceptZero
shown_signs Sign.None other = SignDisplay.Auto
shown_signs other Sign.None = SignDisplay.Auto
shown_signs sign other = SignDisplay.Always

-- the formatter of all digits that has a sign display
abbrev pub displaying : SignedFormatters → SignDisplay → NumberFormatter
displaying f SignDisplay.Always = f.always
displaying f SignDisplay.ExceptZero = f.except_zero
displaying f other = f.auto

-- the formatter of two numbers with these signs
abbrev pub formatter_by : RangeNumbers → Sign → Sign → NumberFormatter
formatter_by (Skeleton f) start end = f
formatter_by (AllDigits f) start end = displaying f (shown_signs start end)

-- the numbering system that a skeleton names
abbrev pub system_of : RangeNumbers → Option (List ℕ)
system_of (Skeleton f) = f.options.numbering_system
system_of (AllDigits f) = None

-- the formatter of two decimals
abbrev pub formatter_of : RangeFormatter → Decimal → Decimal → NumberFormatter
formatter_of f v w = formatter_by f.numbers v.sign w.sign

-- the text of the range of two decimals
abbrev pub IsRangeTextBy : RangeFormatter → Decimal → Decimal → List ℕ → Type 0
IsRangeTextBy f v w text = IsRangeText (formatter_of f v w) f.texts v w text

-- P holds of the text of the range of two decimals
abbrev pub HasRangeTextBy : RangeFormatter → Decimal → Decimal → (List ℕ → Type 0) → Type 0
HasRangeTextBy f v w P = (text : List ℕ) × IsRangeTextBy f v w text × P text

-- ---- Errors.

-- the range of two decimals is not formatted
abbrev pub FormattingFails : RoundError → RangeFormatter → Decimal → Decimal → Type 0
FormattingFails why f v w = (at_end : Bool) × RangeFormattingFails (formatter_of f v w) v w at_end why

-- writing the text of the range may fail with this error
abbrev pub RangeWritingFails : OperationError → RangeFormatter → Decimal → Decimal → Type 0
RangeWritingFails FormatOverflow f v w = FormattingFails RoundError.Limit f v w
RangeWritingFails Memory f v w = FormattingFails RoundError.Memory f v w
RangeWritingFails Output f v w = (text : List ℕ) × IsRangeTextBy f v w text
RangeWritingFails error f v w = ⊥
