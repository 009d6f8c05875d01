-- Why a number is not formatted.
use Rattle.std.proofs.Common.{◌≡◌, ℕ, Some, None, refl}
use Rattle.decimal_digits.specs.declared.rounding.RoundError.{RoundError, TheVariants.{Limit, Memory}}
use Rattle.fixed_decimal.specs.Decimal.{Decimal}
use Rattle.number_format.specs.{declared.format.formatter.NumberFormatter.NumberFormatter, NumberText.{shown_number, FormattingNeedsMemory}}
use Rattle.conversions.specs.declared.locale_formatter.LocaleFormatter.TheVariants.{Skeleton}
use Rattle.fixed_decimal_c.specs.{Formats.FormatFails, NumberTexts.error_of_format}

pub format_fails : (f : NumberFormatter) (v : Decimal) (at : ℕ) (error : RoundError)
    → (error ≡ Limit → shown_number f v ≡ None) → (error ≡ Memory → FormattingNeedsMemory f v)
    → FormatFails (error_of_format error at) (Some (Skeleton f)) v at
format_fails f v at Limit limit memory = (refl, limit refl)
format_fails f v at Memory limit memory = memory refl
