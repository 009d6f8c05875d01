-- The options that a skeleton names, by ICU's defaults. An error names the stem that this library has not.
use Rattle.std.specs.{Prelude.{ℕ, ◌==◌, nat_lt, Bool, true, false, ◌||◌, not, if◌then◌else◌, ℤ, pos, negsuc, int_lt, List, codes, Option, Some, None, unwrap_or, Result, Ok, Err}, Option.{option_map, option_map_or}}
use Rattle.decimal_format.specs.declared.grouping.GroupingStrategy.{GroupingStrategy}
use Rattle.fixed_decimal.specs.declared.variations.SignDisplay.{SignDisplay}
use Rattle.fixed_decimal.specs.declared.variations.SignDisplay.TheVariants as sign
use Rattle.locale_data.specs.{declared.currency.CurrencySign.CurrencySign, Codes.{code_of, system_name}, Rows.unpadded}
use Rattle.locale_data.specs.declared.currency.CurrencySign.TheVariants as currency_sign
use Rattle.locale_names.specs.{declared.locale_units.UnitDisplay.{UnitDisplay, TheVariants.{Long, Short, Narrow}}, Units.{Indices, indices_of}}
use Rattle.number_format.specs.{declared.options.{CurrencyDisplay.CurrencyDisplay, CurrencyStyle.CurrencyStyle, CurrencyUsage.CurrencyUsage, DecimalSeparatorDisplay.DecimalSeparatorDisplay, GroupSizes.GroupSizes, NumberNotation.NumberNotation, NumberNotation.TheVariants.{Standard, Scientific, Engineering, Compact}, NumberOptions.NumberOptions, NumberStyle.NumberStyle, PerDisplay.{PerDisplay, TheVariants.{Auto, Always}}}, DefaultOptions.default_grouping}
use Rattle.number_format.specs.declared.options.CurrencyDisplay.TheVariants as display
use Rattle.number_format.specs.declared.options.CurrencyUsage.TheVariants as usage
use Rattle.number_format.specs.declared.options.DecimalSeparatorDisplay.TheVariants as separator
use Rattle.number_format.specs.declared.options.GroupSizes.TheVariants as sizes
use Rattle.number_format.specs.declared.options.NumberStyle.TheVariants as style
use Rattle.number_skeleton.specs.{declared.{error.SkeletonError.SkeletonError, choices.{Choices.Choices, ChosenNotation.ChosenNotation, ChosenPerUnit.ChosenPerUnit, ChosenPrecision.ChosenPrecision, Exponent.Exponent, Span.Span, ChosenUnit.ChosenUnit}, decimal.Decimal.Decimal}, Digits.{unsupported, is_compact, DigitsValue, digits_value, digits_of}, Reading.{and_then, choices_of}, Units.{unit_at, index_named, is_two, joined}}
use Rattle.number_skeleton.specs.declared.choices.ChosenNotation.TheVariants as chosen
use Rattle.number_skeleton.specs.declared.choices.ChosenPerUnit.TheVariants as per
use Rattle.number_skeleton.specs.declared.choices.ChosenPrecision.TheVariants as precision
use Rattle.number_skeleton.specs.declared.choices.ChosenUnit.TheVariants as unit

-- ---- Notations.
-- at least one digit, and at most 65,535
abbrev pub exponent_notation : Exponent → Span → Result NumberNotation SkeletonError
exponent_notation e stem =
    if e.digits == 0 || nat_lt 65535 e.digits then Err (unsupported stem)
    else if e.is_engineering then Ok (Engineering (record { digits = e.digits; sign = e.sign }))
    else Ok (Scientific (record { digits = e.digits; sign = e.sign }))

abbrev pub notation_of : Option (ChosenNotation × Span) → Result NumberNotation SkeletonError
notation_of (Some (chosen.Exponent e, stem)) = exponent_notation e stem
notation_of (Some (chosen.Compact length, stem)) = Ok (Compact length)
notation_of n = Ok Standard

-- ---- Widths.
-- the width that a stem names: `None` is that of other symbols, `formal` and `variant`
abbrev pub width_of : Option (Option CurrencyDisplay × Span) → Option CurrencyDisplay
width_of (Some (width, stem)) = width
width_of None = Some display.Symbol

-- units have the long text by each width but the short and the narrow one
abbrev pub unit_display : Option CurrencyDisplay → UnitDisplay
unit_display (Some display.Symbol) = Short
unit_display (Some display.Narrow) = Narrow
unit_display width = Long

-- currencies have no other symbols
abbrev pub currency_display : Option (Option CurrencyDisplay × Span) → Result CurrencyDisplay SkeletonError
currency_display (Some (Some width, stem)) = Ok width
currency_display (Some (None, stem)) = Err (unsupported stem)
currency_display None = Ok display.Symbol

-- percent and permille are no units but patterns: not in compact notation, and not by the name
abbrev pub has_pattern : Bool → Option CurrencyDisplay → Bool
has_pattern true width = false
has_pattern false (Some display.Name) = false
has_pattern false width = true

-- percent is its style in compact notation too, with the short text and no other unit
abbrev pub has_style : Bool → Option CurrencyDisplay → Option (ℕ × Span) → Bool
has_style true (Some display.Symbol) None = true
has_style compact width second = has_pattern compact width

-- ---- Units.
abbrev pub or_unsupported : Span → Option ℕ → Result ℕ SkeletonError
or_unsupported stem (Some index) = Ok index
or_unsupported stem None = Err (unsupported stem)

abbrev pub unit_or_none : Span → Option ℕ → Result (Option ℕ) SkeletonError
unit_or_none stem None = Ok None
unit_or_none stem (Some index) = and_then (λ i. Ok (Some i)) (or_unsupported stem (unit_at index))

-- a unit and another one after `per`; one of these that is two units is an error
abbrev pub divided : Span → ℕ → ℕ → Result Indices SkeletonError
divided stem first second =
    if is_two first || is_two second then Err (unsupported stem) else Ok (joined first second)

-- units, or the first of them and the one of `per-measure-unit`
abbrev pub units_by : Span → Indices → Option (ℕ × Span) → ℕ → Result Indices SkeletonError
units_by stem units None first = and_then (λ second. Ok (first, second)) (unit_or_none stem units.1)
units_by stem units (Some (index, per_stem)) first =
    and_then (divided per_stem first) (or_unsupported per_stem (unit_at index))

unfoldable pub units_of : Span → Indices → Option (ℕ × Span) → Result Indices SkeletonError
units_of stem units second = and_then (units_by stem units second) (or_unsupported stem (unit_at units.0))

-- the unit of `per-measure-unit`, with its stem
abbrev pub second_of : Option (ChosenPerUnit × Span) → Result (Option (ℕ × Span)) SkeletonError
second_of (Some (per.Unit index, stem)) = Ok (Some (index, stem))
second_of (Some (per.Other, stem)) = Err (unsupported stem)
second_of (Some (per.InUnit, stem)) = Ok None
second_of None = Ok None

-- ---- Styles.
-- styles, with units by their indices
pub data StyleValue : Type 0 where
  Plain : StyleValue
  Percent : StyleValue
  Permille : StyleValue
  Money : CurrencyStyle → StyleValue
  Units : Indices → UnitDisplay → PerDisplay → StyleValue

abbrev pub style_value : NumberStyle → StyleValue
style_value style.Decimal = Plain
style_value style.Percent = Percent
style_value style.Permille = Permille
style_value (style.Currency c) = Money c
style_value (style.Unit u) = Units (indices_of u.unit) u.display u.per_display

abbrev pub currency_sign_of : Option (SignDisplay × CurrencySign) → CurrencySign
currency_sign_of s = (unwrap_or s (sign.Auto, currency_sign.Standard)).1

abbrev pub sign_display_of : Option (SignDisplay × CurrencySign) → SignDisplay
sign_display_of s = (unwrap_or s (sign.Auto, currency_sign.Standard)).0

abbrev pub usage_of : Option (ChosenPrecision × Span) → CurrencyUsage
usage_of (Some (precision.Currency u, stem)) = u
usage_of p = usage.Standard

-- a currency by its code, if its bytes are one: ICU has currencies of other bytes, and this library has not
abbrev pub currency_style : Choices → CurrencyDisplay → Span → Option (List ℕ) → Result StyleValue SkeletonError
currency_style c width stem (Some code) =
    Ok (Money (record {
      code = code;
      display = width;
      sign = currency_sign_of c.sign;
      usage = usage_of c.precision;
    }))
currency_style c width stem None = Err (unsupported stem)

abbrev pub units_style :
    UnitDisplay → PerDisplay → Span → Option (ℕ × Span) → Indices → Result StyleValue SkeletonError
units_style width per stem second units = and_then (λ u. Ok (Units u width per)) (units_of stem units second)

-- percent or permille as a unit
abbrev pub hundredths_style : UnitDisplay → Span → Option (ℕ × Span) → Option ℕ → Result StyleValue SkeletonError
hundredths_style width stem second (Some first) = units_style width Auto stem second (first, None)
hundredths_style width stem second None = Err (unsupported stem)

abbrev pub percent_style : Bool → Option CurrencyDisplay → Span → Option (ℕ × Span) → Result StyleValue SkeletonError
percent_style compact width stem second =
    if has_style compact width second then Ok Percent
    else hundredths_style (unit_display width) stem second (index_named (codes "percent"))

abbrev pub permille_style : Bool → Option CurrencyDisplay → Span → Option (ℕ × Span) → Result StyleValue SkeletonError
permille_style compact width stem second =
    if has_pattern compact width then Ok Permille
    else hundredths_style (unit_display width) stem second (index_named (codes "permille"))

abbrev pub is_percent : ℕ → Bool
is_percent index = option_map_or (λ percent. percent == index) (index_named (codes "percent")) false

-- percent and another unit after `per`, of which a formatter writes the pattern of percent alone
abbrev pub loses_second : Bool → UnitDisplay → Indices → Bool
loses_second true width units = false
loses_second false Long units = false
loses_second false width (first, None) = false
loses_second false width (first, Some second) = is_percent first

-- in one stem both are written: `1%/h` by `unit/percent-per-hour`
abbrev pub per_display : Bool → UnitDisplay → Indices → PerDisplay
per_display compact width units = if loses_second compact width units then Always else Auto

abbrev pub chosen_units : Bool → UnitDisplay → Span → Option (ℕ × Span) → Indices → Result StyleValue SkeletonError
chosen_units compact width stem second units =
    units_style width (per_display compact width units) stem second units

-- without a unit there is none after `per` either
abbrev pub base_style : Option (ℕ × Span) → Result StyleValue SkeletonError
base_style None = Ok Plain
base_style (Some (index, stem)) = Err (unsupported stem)

abbrev pub style_by : Option (ChosenUnit × Span) → Choices → Option (ℕ × Span) → Result StyleValue SkeletonError
style_by (Some (unit.Percent, stem)) c second = percent_style (is_compact c.notation) (width_of c.width) stem second
style_by (Some (unit.Permille, stem)) c second = permille_style (is_compact c.notation) (width_of c.width) stem second
style_by (Some (unit.Currency bytes, stem)) c second =
    and_then (λ width. currency_style c width stem (code_of bytes)) (currency_display c.width)
style_by (Some (unit.Units units, stem)) c second =
    chosen_units (is_compact c.notation) (unit_display (width_of c.width)) stem second units
style_by (Some (unit.Other, stem)) c second = Err (unsupported stem)
style_by (Some (unit.Base, stem)) c second = base_style second
style_by None c second = base_style second

unfoldable pub style_of : Choices → Result StyleValue SkeletonError
style_of c = and_then (style_by c.unit c) (second_of c.per_unit)

-- ---- The rest.
-- a power of ten from -32,768 to 32,767
abbrev pub scale_power : Decimal → Span → Result ℤ SkeletonError
scale_power d stem =
    if d.is_negative || (not (d.digits == 1) || (int_lt d.power (negsuc 32767) || int_lt (pos 32767) d.power))
    then Err (unsupported stem) else Ok d.power

abbrev pub scale_of : Option (Decimal × Span) → Result ℤ SkeletonError
scale_of (Some (d, stem)) = scale_power d stem
scale_of None = Ok (pos 0)

-- where groups are separated, and which: as a stem chooses, or else as the notation does by default
abbrev pub groups_of : NumberNotation → Option (GroupingStrategy × GroupSizes) → GroupingStrategy × GroupSizes
groups_of notation chosen = unwrap_or chosen (default_grouping notation, sizes.Locale)

abbrev pub system_by : Span → Option (List ℕ) → Result (Option (List ℕ)) SkeletonError
system_by stem (Some name) = Ok (Some name)
system_by stem None = Err (unsupported stem)

-- the numbering system with a name that is padded with spaces
abbrev pub system_of : Option (Option (List ℕ) × Span) → Result (Option (List ℕ)) SkeletonError
system_of (Some (Some bytes, stem)) = system_by stem (system_name (unpadded bytes))
system_of (Some (None, stem)) = Err (unsupported stem)
system_of None = Ok None

-- a usage is an error
abbrev pub no_usage : Option Span → Result (Unit {0}) SkeletonError
no_usage (Some stem) = Err (unsupported stem)
no_usage None = Ok tt

-- ---- Options by their numbers.
pub record OptionsValue : Type 0 where
  pub style : StyleValue
  pub scale : ℤ
  pub notation : NumberNotation
  pub digits : Option DigitsValue
  pub sign_display : SignDisplay
  pub grouping : GroupingStrategy
  pub group_sizes : GroupSizes
  pub decimal_separator : DecimalSeparatorDisplay
  pub numbering_system : Option (List ℕ)

abbrev pub options_value : NumberOptions → OptionsValue
options_value o = record {
  style = style_value o.style;
  scale = o.scale;
  notation = o.notation;
  digits = option_map digits_value o.digits;
  sign_display = o.sign_display;
  grouping = o.grouping;
  group_sizes = o.group_sizes;
  decimal_separator = o.decimal_separator;
  numbering_system = o.numbering_system;
}

-- the options that choices are, or the error of the first choice that is none
unfoldable pub options_of : Choices → Result OptionsValue SkeletonError
options_of c =
    and_then (λ _. and_then (λ style. and_then (λ scale. and_then (λ notation. and_then (λ digits.
    and_then (λ system. Ok (record {
      style = style;
      scale = scale;
      notation = notation;
      digits = Some digits;
      sign_display = sign_display_of c.sign;
      grouping = (groups_of notation c.grouping).0;
      group_sizes = (groups_of notation c.grouping).1;
      decimal_separator = unwrap_or c.decimal_separator separator.Auto;
      numbering_system = system;
    })) (system_of c.system)) (digits_of c))
    (notation_of c.notation)) (scale_of c.scale)) (style_of c)) (no_usage c.usage)

-- the options that a text names, or its error
abbrev pub skeleton_options : List ℕ → Result OptionsValue SkeletonError
skeleton_options text = and_then options_of (choices_of text)
