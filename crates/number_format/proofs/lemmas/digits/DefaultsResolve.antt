-- The digits that ECMA-402 has for a style and a notation.
use Rattle.std.proofs.Common.{◌≡◌, ℕ, Bool, true, false, refl, sym, subst, arith}
use Rattle.std.specs.Prelude.{min, max, if◌then◌else◌}
use Rattle.locale_data.specs.declared.local_currency.CurrencyDigits.{CurrencyDigits}
use Rattle.number_format.specs.{Increments.is_increment, DefaultDigits.{increment_or_1, usage_digits, increment_by, IsDefaultPrecision}, Resolved.IsBoth, declared.{options.NumberStyle.NumberStyle, digits.{precision.{BothDigits.BothDigits, Precision.TheVariants.{Fraction, MorePrecision}}, settings.DigitDefaults.DigitDefaults}}}

or_1 : (n : ℕ) → is_increment (increment_or_1 n) ≡ true
or_1 n = by (is_increment n) refl
  where
    by : (b : Bool) → is_increment n ≡ b → is_increment (if b then n else 1) ≡ true
    by true is = is
    by false is = refl

pub default_is_increment : (digits : CurrencyDigits) (s : NumberStyle) (compact : Bool)
    → is_increment (increment_by digits s compact) ≡ true
default_is_increment digits (NumberStyle.Currency c) false = or_1 (usage_digits c.usage digits).1
default_is_increment digits (NumberStyle.Currency c) true = refl
default_is_increment digits NumberStyle.Decimal compact = refl
default_is_increment digits NumberStyle.Percent compact = refl
default_is_increment digits NumberStyle.Permille compact = refl
default_is_increment digits (NumberStyle.Unit u) compact = refl

pub no_increment : (digits : CurrencyDigits) (s : NumberStyle) → increment_by digits s true ≡ 1
no_increment digits (NumberStyle.Currency c) = refl
no_increment digits NumberStyle.Decimal = refl
no_increment digits NumberStyle.Percent = refl
no_increment digits NumberStyle.Permille = refl
no_increment digits (NumberStyle.Unit u) = refl

-- compact notation has both roundings
pub compact_is_both : (n : ℕ) (d : DigitDefaults) (b : BothDigits) → IsBoth b (0, 0) (1, 2) → d.is_compact ≡ true
    → IsDefaultPrecision n d (MorePrecision b)
compact_is_both n d b is compact =
    subst (λ c. IsDefaultPrecision n (record d { is_compact = c }) (MorePrecision b)) (sym compact) is

-- without an increment there are fraction digits
pub fraction_is_range : (n : ℕ) (d : DigitDefaults) → d.is_compact ≡ false → n ≡ 1
    → IsDefaultPrecision n d (Fraction d.fraction)
fraction_is_range n d compact one =
    let least = d.fraction.min in
    let same : min least least ≡ least = omega arith in
    let most : max d.fraction.max (min least least) ≡ d.fraction.max = omega (arith, d.fraction.ordered) in
    subst (λ c. IsDefaultPrecision n (record d { is_compact = c }) (Fraction d.fraction)) (sym compact)
    (subst (λ k. IsDefaultPrecision k (record d { is_compact = false }) (Fraction d.fraction)) (sym one)
    (refl, λ i. (sym same i, sym most i)))
