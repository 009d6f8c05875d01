-- Precisions that C does not have.
use Rattle.std.proofs.Common.{◌≡◌, arith}
use Rattle.number_format.specs.declared.digits.{precision.Precision.{Precision, TheVariants.{Fraction, Multiples, Significant, MorePrecision, LessPrecision}}, ranges.{FractionDigits.FractionDigits, SignificantDigits.SignificantDigits}}
use Rattle.fixed_decimal_c.specs.{declared.format_options.FdFormatOptions.FdFormatOptions, FormatOptions.{AreFraction, AreSignificant, IsPrecision}}

module _ (c : FdFormatOptions) where
  pub no_fraction : c.precision ≡ 1 → ((f : FractionDigits) → AreFraction c f → ⊥) → (p : Precision)
      → IsPrecision c p → ⊥
  no_fraction one none (Fraction f) is = none f is.1
  no_fraction one none (Multiples m) is = omega (arith, one, is.0)
  no_fraction one none (Significant s) is = omega (arith, one, is.0)
  no_fraction one none (MorePrecision b) is = omega (arith, one, is.0)
  no_fraction one none (LessPrecision b) is = omega (arith, one, is.0)

  pub no_significant : c.precision ≡ 3 → ((s : SignificantDigits) → AreSignificant c s → ⊥) → (p : Precision)
      → IsPrecision c p → ⊥
  no_significant three none (Fraction f) is = omega (arith, three, is.0)
  no_significant three none (Multiples m) is = omega (arith, three, is.0)
  no_significant three none (Significant s) is = none s is.1
  no_significant three none (MorePrecision b) is = omega (arith, three, is.0)
  no_significant three none (LessPrecision b) is = omega (arith, three, is.0)
