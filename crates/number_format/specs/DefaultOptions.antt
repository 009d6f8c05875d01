-- The options of a number where nothing else is chosen, and those with other digits.
use Rattle.std.specs.Prelude.{◌≡◌, ℕ, ℤ, Bool, true, false, if◌then◌else◌, pos, List, Some, None}
use Rattle.decimal_format.specs.declared.grouping.GroupingStrategy.{GroupingStrategy}
use Rattle.fixed_decimal.specs.declared.variations.SignDisplay.{SignDisplay}
use Rattle.locale_data.specs.declared.currency.CurrencySign.{CurrencySign}
use Rattle.locale_names.specs.declared.{locale_units.UnitDisplay.UnitDisplay, unit_id.Unit.Unit}
use Rattle.number_format.specs.{declared.{digits.{options.DigitOptions.DigitOptions, error.DigitOptionsError.DigitOptionsError, settings.{DigitDefaults.DigitDefaults, DigitSettings.DigitSettings}}, options.{CurrencyDisplay.CurrencyDisplay, CurrencyStyle.CurrencyStyle, CurrencyUsage.CurrencyUsage, DecimalSeparatorDisplay.DecimalSeparatorDisplay, ExponentOptions.ExponentOptions, ExponentSign.ExponentSign, GroupSizes.GroupSizes, NumberNotation.NumberNotation, NumberOptions.NumberOptions, NumberStyle.NumberStyle, PerDisplay.PerDisplay, UnitStyle.UnitStyle}}, DefaultDigits.IsDefault, Resolved.{IsResolved, resolve_error}}

-- one digit or more, and a minus sign below 0
abbrev pub plain_exponent : ExponentOptions
plain_exponent = record { digits = 1; sign = ExponentSign.Auto }

-- the usual symbol, pattern and digits
abbrev pub currency_style : List ℕ → CurrencyStyle
currency_style code = record {
  code = code;
  display = CurrencyDisplay.Symbol;
  sign = CurrencySign.Standard;
  usage = CurrencyUsage.Standard;
}

-- the short text of a unit
abbrev pub unit_style : Unit → UnitStyle
unit_style unit = record { unit = unit; display = UnitDisplay.Short; per_display = PerDisplay.Auto }

-- in compact notation a separator has at least two digits before it
abbrev pub default_grouping : NumberNotation → GroupingStrategy
default_grouping (NumberNotation.Compact length) = GroupingStrategy.Min2
default_grouping other = GroupingStrategy.Auto

-- a style, a scale and a notation; all else is the default
abbrev pub options_of : NumberStyle → ℤ → NumberNotation → NumberOptions
options_of style scale notation = record {
  style = style;
  scale = scale;
  notation = notation;
  digits = None;
  sign_display = SignDisplay.Auto;
  grouping = default_grouping notation;
  group_sizes = GroupSizes.Locale;
  decimal_separator = DecimalSeparatorDisplay.Auto;
  numbering_system = None;
}

-- a plain number in standard notation
abbrev pub default_options : NumberOptions
default_options = options_of NumberStyle.Decimal (pos 0) NumberNotation.Standard

abbrev pub is_same : GroupingStrategy → GroupingStrategy → Bool
is_same GroupingStrategy.Auto GroupingStrategy.Auto = true
is_same GroupingStrategy.Never GroupingStrategy.Never = true
is_same GroupingStrategy.Always GroupingStrategy.Always = true
is_same GroupingStrategy.Min2 GroupingStrategy.Min2 = true
is_same first second = false

-- the grouping of options in another notation: the default one if it was the default one
abbrev pub grouping_after : NumberOptions → NumberNotation → GroupingStrategy
grouping_after o notation =
    if is_same o.grouping (default_grouping o.notation) then default_grouping notation else o.grouping

-- the options with the digits that settings name, by the defaults of the style and the notation
abbrev pub HasDigitsOf : NumberOptions → DigitSettings → NumberOptions → Type 0
HasDigitsOf base settings o =
    (d : DigitDefaults) × (digits : DigitOptions) × IsDefault base d × IsResolved settings d digits
    × (o ≡ record base { digits = Some digits })

-- settings name no digits, by this error
abbrev pub DigitsFail : NumberOptions → DigitSettings → DigitOptionsError → Type 0
DigitsFail base settings error =
    (d : DigitDefaults) × IsDefault base d × (resolve_error settings d ≡ Some error)
