-- The style of the unit that a text names.
use Rattle.std.proofs.Common.{◌≡◌, List, ℕ, Some, refl}
use Rattle.std.specs.Prelude.{slice_get}
use Rattle.locale_names.specs.declared.{locale_units.UnitDisplay.UnitDisplay, unit_id.Unit.Unit}
use Rattle.number_format.specs.declared.options.{NumberStyle.NumberStyle, PerDisplay.PerDisplay}
use Rattle.fixed_decimal_c.specs.{declared.number_options.FdNumberOptions.FdNumberOptions, NumberOptions.IsOptionStyle, Styles.unit_displays, Units.{NamesUnit, per_number, unit_number}}

pub named_style : (name : List ℕ) (unit : Unit) (c : FdNumberOptions) (display : UnitDisplay) → NamesUnit name unit
    → c.style ≡ 4 → c.unit ≡ unit_number unit.unit → c.per_unit ≡ per_number unit.per
    → slice_get unit_displays c.unit_display ≡ Some display
    → IsOptionStyle c (NumberStyle.Unit (record { unit = unit; display = display; per_display = PerDisplay.Auto }))
named_style name unit c display names four first second width = record {
  style = (four, record { unit = record { unit_is = first; per_is = second }; display = width; per = refl });
  sanctioned = names.sanctioned;
}
