-- Why a range is not formatted.
use Rattle.std.proofs.Common.{◌≡◌, None, true, false, inr, refl, ap}
use Rattle.std.specs.Prelude.{IsSome, is_some}
use Rattle.decimal_digits.specs.declared.rounding.RoundError.{RoundError, TheVariants.{Limit, Memory}}
use Rattle.fixed_decimal.specs.Decimal.{Decimal}
use Rattle.number_format.specs.{declared.format.{formatted_number.FormattedNumber.FormattedNumber, formatter.NumberFormatter.NumberFormatter}, FormattedRanges.IsFormattedEnd, NumberText.{shown_number, FormattingNeedsMemory}, RangeText.RangeFormattingFails}

module _ (f : NumberFormatter) (v w : Decimal) where
  -- the start is not formatted
  pub start_fails : (error : RoundError) → (error ≡ Limit → shown_number f v ≡ None)
      → (error ≡ Memory → FormattingNeedsMemory f v) → RangeFormattingFails f v w false error
  start_fails Limit limit memory = limit refl
  start_fails Memory limit memory = inr (memory refl)

  -- the end is not formatted, after the start
  pub end_fails : (error : RoundError) (n : FormattedNumber) → IsFormattedEnd f v n
      → (error ≡ Limit → shown_number f w ≡ None) → (error ≡ Memory → FormattingNeedsMemory f w)
      → RangeFormattingFails f v w true error
  end_fails error n (is, outer) = by error
    where
      shown : IsSome (shown_number f v)
      shown = ap is_some is.number_is

      by : (error : RoundError) → (error ≡ Limit → shown_number f w ≡ None)
          → (error ≡ Memory → FormattingNeedsMemory f w) → RangeFormattingFails f v w true error
      by Limit limit memory = (shown, limit refl)
      by Memory limit memory = (shown, memory refl)
