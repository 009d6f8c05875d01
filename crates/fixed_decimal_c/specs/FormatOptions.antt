-- The options of a formatter, as C keeps them.
use Rattle.std.specs.{Prelude.{◌≡◌, ℕ, ◌-◌, ◌==◌, if◌then◌else◌, List, [], ◌∷◌, ◌++◌, length, take, replicate, slice_get, Option, Some, None}, Option.{option_and_then, option_map}}
use Rattle.locale_data.specs.{Codes.system_name, Rows.unpadded}
use Rattle.number_format.specs.{declared.{digits.{options.DigitOptions.DigitOptions, precision.{BothDigits.BothDigits, Minimum.Minimum, Precision.Precision}, ranges.{FractionDigits.FractionDigits, SignificantDigits.SignificantDigits}}, options.{ExponentSign.ExponentSign, GroupSizes.GroupSizes, NumberNotation.NumberNotation, NumberOptions.NumberOptions}}, ShownDigits.increment_of}
use Rattle.fixed_decimal_c.specs.{declared.{format_options.FdFormatOptions.FdFormatOptions, styles.StyleCodes.StyleCodes}, Calls.{display_code, mode_code}, NumberOptions.{grouping_code, notations, separators, trailing_zeros}, Styles.IsStyle}

-- ---- Words, in the order of their numbers.

abbrev pub exponent_signs : List ExponentSign
exponent_signs = ExponentSign.Auto ∷ ExponentSign.Always ∷ ExponentSign.Never ∷ []

abbrev pub minimums : List Minimum
minimums = Minimum.Chosen ∷ Minimum.Both ∷ []

abbrev pub group_sizes : List GroupSizes
group_sizes = GroupSizes.Locale ∷ GroupSizes.Thousands ∷ []

-- the numbers of the style
abbrev pub style_codes_in : FdFormatOptions → StyleCodes
style_codes_in c = record {
  style = c.style;
  currency = c.currency;
  currency_display = c.currency_display;
  currency_sign = c.currency_sign;
  currency_usage = c.currency_usage;
  unit = c.unit;
  per_unit = c.per_unit;
  unit_display = c.unit_display;
  per_display = c.per_display;
}

-- the notation with a number, and with this number of digits and number of a sign of an exponent
abbrev pub notation_with : ℕ → ℕ → ℕ → Option NumberNotation
notation_with notation digits sign =
    option_and_then (λ s. slice_get (notations (record { digits = digits; sign = s })) notation)
    (slice_get exponent_signs sign)

-- the name of a numbering system, padded with spaces to 16 bytes
abbrev pub padded_name : List ℕ → List ℕ
padded_name name = take 16 name ++ replicate (16 - length name) 32

-- by the number 0 none; by 1 the numbering system whose name, padded with spaces, these bytes are
abbrev pub system_with : ℕ → List ℕ → Option (Option (List ℕ))
system_with number bytes =
    if number == 0 then Some None
    else if number == 1 then option_map (λ name. Some name) (system_name (unpadded bytes)) else None

-- ---- Digits.

abbrev pub AreFraction : FdFormatOptions → FractionDigits → Type 0
AreFraction c f = (f.min ≡ c.minimum_fraction_digits) × (f.max ≡ c.maximum_fraction_digits)

abbrev pub AreSignificant : FdFormatOptions → SignificantDigits → Type 0
AreSignificant c s = (s.min ≡ c.minimum_significant_digits) × (s.max ≡ c.maximum_significant_digits)

abbrev pub AreBoth : FdFormatOptions → BothDigits → Type 0
AreBoth c b = AreFraction c b.fraction × AreSignificant c b.significant × (slice_get minimums c.zeros ≡ Some b.minimum)

-- the numbers of digits that are used
abbrev pub IsPrecision : FdFormatOptions → Precision → Type 0
IsPrecision c (Precision.Fraction f) = (c.precision ≡ 1) × AreFraction c f
IsPrecision c (Precision.Multiples m) =
    (c.precision ≡ 2) × (m.digits ≡ c.maximum_fraction_digits) × (increment_of m.increment ≡ c.rounding_increment)
IsPrecision c (Precision.Significant s) = (c.precision ≡ 3) × AreSignificant c s
IsPrecision c (Precision.MorePrecision b) = (c.precision ≡ 4) × AreBoth c b
IsPrecision c (Precision.LessPrecision b) = (c.precision ≡ 5) × AreBoth c b

pub record AreShownDigits (c : FdFormatOptions) (d : DigitOptions) : Type 0 where
  pub least : d.integer.min ≡ c.minimum_integer_digits
  pub most : d.integer.max ≡ c.maximum_integer_digits
  pub precision : IsPrecision c d.precision
  pub mode : c.rounding_mode ≡ mode_code d.mode
  pub zeros : slice_get trailing_zeros c.trailing_zeros ≡ Some d.trailing_zeros

-- without a precision all digits are shown
abbrev pub AreDigits : FdFormatOptions → Option DigitOptions → Type 0
AreDigits c None = c.precision ≡ 0
AreDigits c (Some d) = AreShownDigits c d

-- ---- Options.

-- C has these options
pub record AreFormatOptions (c : FdFormatOptions) (o : NumberOptions) : Type 0 where
  pub style : IsStyle (style_codes_in c) o.style
  pub scale : o.scale ≡ c.scale
  pub notation : notation_with c.notation c.exponent_digits c.exponent_sign ≡ Some o.notation
  pub digits : AreDigits c o.digits
  pub sign : c.sign_display ≡ display_code o.sign_display
  pub grouping : c.grouping ≡ grouping_code o.grouping
  pub sizes : slice_get group_sizes c.group_sizes ≡ Some o.group_sizes
  pub separator : slice_get separators c.decimal_separator ≡ Some o.decimal_separator
  pub system : system_with c.has_numbering_system c.numbering_system ≡ Some o.numbering_system
  pub reserved : c.reserved ≡ replicate 28 0
