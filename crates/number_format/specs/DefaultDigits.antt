-- The digits that ECMA-402 has for a style and a notation where none are given.
use Rattle.std.specs.Prelude.{◌≡◌, ℕ, Bool, true, false, if◌then◌else◌, Option, Some, None, List}
use Rattle.decimal_digits.specs.declared.rounding.UnsignedRoundingMode.TheVariants.{HalfExpand}
use Rattle.fixed_decimal.specs.declared.rounding.SignedRoundingMode.TheVariants.{Unsigned}
use Rattle.locale_data.specs.{Currencies.{currency_with, digits_of}, declared.local_currency.CurrencyDigits.CurrencyDigits}
use Rattle.number_format.specs.{declared.{digits.{options.{DigitOptions.DigitOptions, TrailingZeros.TrailingZeros}, precision.Precision.Precision, settings.{DigitDefaults.DigitDefaults, DigitSettings.DigitSettings, RoundingPriority.RoundingPriority}}, options.{CurrencyUsage.CurrencyUsage, NumberNotation.NumberNotation, NumberOptions.NumberOptions, NumberStyle.NumberStyle}}, Increments.is_increment, Resolved.{IsNamed, IsResolved, counts, fraction_of, needs_fraction, needs_significant, significant_of}}

abbrev pub is_compact : NumberNotation → Bool
is_compact (NumberNotation.Compact length) = true
is_compact other = false

-- a plain number in standard notation shows all its digits
abbrev pub shows_all_digits : NumberStyle → NumberNotation → Bool
shows_all_digits NumberStyle.Decimal NumberNotation.Standard = true
shows_all_digits style notation = false

-- the number of fraction digits of a currency for a use, and its increment, 0 if it has none
abbrev pub usage_digits : CurrencyUsage → CurrencyDigits → ℕ × ℕ
usage_digits CurrencyUsage.Standard d = (d.digits, 0)
usage_digits CurrencyUsage.Cash d = (d.cash_digits, d.cash_increment)

abbrev pub currency_digits : CurrencyUsage → List ℕ → ℕ × ℕ
currency_digits usage code = usage_digits usage (digits_of (currency_with code))

-- the digits of the currency of a style
abbrev pub style_digits : NumberStyle → CurrencyDigits
style_digits (NumberStyle.Currency c) = digits_of (currency_with c.code)
style_digits other = digits_of None

-- the least and the greatest number of fraction digits, by the digits of the currency
abbrev pub fraction_digits : CurrencyDigits → NumberStyle → ℕ × ℕ
fraction_digits digits NumberStyle.Decimal = (0, 3)
fraction_digits digits NumberStyle.Percent = (0, 0)
fraction_digits digits NumberStyle.Permille = (0, 0)
fraction_digits digits (NumberStyle.Unit u) = (0, 3)
fraction_digits digits (NumberStyle.Currency c) = ((usage_digits c.usage digits).0, (usage_digits c.usage digits).0)

-- an increment that ECMA-402 allows, or 1
abbrev pub increment_or_1 : ℕ → ℕ
increment_or_1 n = if is_increment n then n else 1

-- the increment: that of cash, but not in compact notation
abbrev pub increment_by : CurrencyDigits → NumberStyle → Bool → ℕ
increment_by digits (NumberStyle.Currency c) false = increment_or_1 (usage_digits c.usage digits).1
increment_by digits other compact = 1

abbrev pub increment : NumberStyle → Bool → ℕ
increment style = increment_by (style_digits style) style

-- no numbers of digits, and an increment
abbrev pub no_settings : ℕ → DigitSettings
no_settings increment = record {
  minimum_integer_digits = None;
  minimum_fraction_digits = None;
  maximum_fraction_digits = None;
  minimum_significant_digits = None;
  maximum_significant_digits = None;
  rounding_increment = increment;
  rounding_mode = Unsigned HalfExpand;
  rounding_priority = RoundingPriority.Auto;
  trailing_zeros = TrailingZeros.Auto;
}

-- the defaults of ECMA-402 for a style and a notation, by the digits of the currency
pub record IsDefaultBy (digits : CurrencyDigits) (o : NumberOptions) (d : DigitDefaults) : Type 0 where
  pub fraction : counts d.fraction.min d.fraction.max ≡ fraction_digits digits o.style
  pub compact : d.is_compact ≡ is_compact o.notation

abbrev pub IsDefault : NumberOptions → DigitDefaults → Type 0
IsDefault o = IsDefaultBy (style_digits o.style) o

-- the digits that are shown: all of them, or those that SetNumberFormatDigitOptions resolves without options
abbrev pub AreDefaultDigits : CurrencyDigits → NumberOptions → Option DigitOptions → Type 0
AreDefaultDigits currency o None = shows_all_digits o.style o.notation ≡ true
AreDefaultDigits currency o (Some digits) =
    let settings = no_settings (increment_by currency o.style (is_compact o.notation)) in
    (shows_all_digits o.style o.notation ≡ false)
    × ((d : DigitDefaults) × IsDefaultBy currency o d × IsResolved settings d digits)

-- ---- Private: used only in the contracts of private functions.

-- the precision of no settings, of an increment and defaults
abbrev pub IsDefaultPrecision : ℕ → DigitDefaults → Precision → Type 0
IsDefaultPrecision increment d =
    let s = no_settings increment in
    IsNamed (fraction_of s d) (significant_of s) increment RoundingPriority.Auto (needs_significant s)
    (needs_fraction s d)
