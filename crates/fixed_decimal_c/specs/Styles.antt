-- The styles of numbers, as C has them.
use Rattle.std.specs.Prelude.{◌≡◌, Bool, true, List, [], ◌∷◌, slice_get, Some}
use Rattle.locale_data.specs.{declared.currency.CurrencySign.CurrencySign, Codes.code_of}
use Rattle.locale_names.specs.{declared.locale_units.UnitDisplay.UnitDisplay, Units.is_sanctioned}
use Rattle.number_format.specs.declared.options.{CurrencyDisplay.CurrencyDisplay, CurrencyStyle.CurrencyStyle, CurrencyUsage.CurrencyUsage, NumberStyle.NumberStyle, PerDisplay.PerDisplay, UnitStyle.UnitStyle}
use Rattle.fixed_decimal_c.specs.{declared.styles.StyleCodes.StyleCodes, Units.HasNumbers}

-- ---- Words, in the order of their numbers.

abbrev pub displays : List CurrencyDisplay
displays =
    CurrencyDisplay.Symbol ∷ CurrencyDisplay.Narrow ∷ CurrencyDisplay.Code ∷ CurrencyDisplay.Hidden
    ∷ CurrencyDisplay.Name ∷ []

abbrev pub signs : List CurrencySign
signs = CurrencySign.Standard ∷ CurrencySign.Accounting ∷ []

abbrev pub usages : List CurrencyUsage
usages = CurrencyUsage.Standard ∷ CurrencyUsage.Cash ∷ []

abbrev pub unit_displays : List UnitDisplay
unit_displays = UnitDisplay.Short ∷ UnitDisplay.Narrow ∷ UnitDisplay.Long ∷ []

abbrev pub per_displays : List PerDisplay
per_displays = PerDisplay.Auto ∷ PerDisplay.Always ∷ []

-- ---- Styles.

-- the style of an amount of money
pub record IsAmount (c : StyleCodes) (m : CurrencyStyle) : Type 0 where
  pub code : code_of c.currency ≡ Some m.code
  pub display : slice_get displays c.currency_display ≡ Some m.display
  pub sign : slice_get signs c.currency_sign ≡ Some m.sign
  pub usage : slice_get usages c.currency_usage ≡ Some m.usage

-- the style of a number of units
pub record IsUnitStyle (c : StyleCodes) (u : UnitStyle) : Type 0 where
  pub unit : HasNumbers c.unit c.per_unit u.unit
  pub display : slice_get unit_displays c.unit_display ≡ Some u.display
  pub per : slice_get per_displays c.per_display ≡ Some u.per_display

-- the style with these numbers
abbrev pub IsStyle : StyleCodes → NumberStyle → Type 0
IsStyle c NumberStyle.Decimal = c.style ≡ 0
IsStyle c NumberStyle.Percent = c.style ≡ 1
IsStyle c NumberStyle.Permille = c.style ≡ 2
IsStyle c (NumberStyle.Currency m) = (c.style ≡ 3) × IsAmount c m
IsStyle c (NumberStyle.Unit u) = (c.style ≡ 4) × IsUnitStyle c u

-- ECMA-402 has the unit of the style, if it has one
abbrev pub has_sanctioned_unit : NumberStyle → Bool
has_sanctioned_unit (NumberStyle.Unit u) = is_sanctioned u.unit
has_sanctioned_unit other = true
