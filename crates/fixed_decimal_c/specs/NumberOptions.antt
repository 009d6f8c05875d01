-- The options of a number that C passes.
use Rattle.std.specs.{Prelude.{◌≡◌, ℕ, ◌⊎◌, ◌==◌, if◌then◌else◌, Option, Some, None, true, unwrap_or, List, [], ◌∷◌, slice_get, slice_index}, Option.option_map}
use Rattle.decimal_format.specs.declared.grouping.GroupingStrategy.{GroupingStrategy}
use Rattle.locale_data.specs.{Codes.system_name, Rows.unpadded}
use Rattle.number_format.specs.{declared.{digits.{options.TrailingZeros.TrailingZeros, error.DigitOptionsError.DigitOptionsError, settings.{DigitSettings.DigitSettings, RoundingPriority.RoundingPriority}}, options.{CompactLength.CompactLength, DecimalSeparatorDisplay.DecimalSeparatorDisplay, ExponentOptions.ExponentOptions, ExponentSign.ExponentSign, GroupSizes.GroupSizes, NumberNotation.NumberNotation, NumberOptions.NumberOptions, NumberStyle.NumberStyle}}, DefaultDigits.{increment, is_compact}, DefaultOptions.{default_grouping, HasDigitsOf, DigitsFail}}
use Rattle.fixed_decimal_c.specs.{declared.{error.FdError.{FdError, TheVariants.{UnknownOption, DigitOptions as WrongDigits}}, number_options.FdNumberOptions.FdNumberOptions, styles.StyleCodes.StyleCodes}, Calls.{display_code, mode_code}, Styles.{IsStyle, has_sanctioned_unit}}

abbrev pub grouping_code : GroupingStrategy → ℕ
grouping_code GroupingStrategy.Auto = 0
grouping_code GroupingStrategy.Never = 1
grouping_code GroupingStrategy.Always = 2
grouping_code GroupingStrategy.Min2 = 3

-- `auto` is the default of the notation, which in compact notation is `min2`, as node has it
abbrev pub grouping_in : NumberNotation → GroupingStrategy → GroupingStrategy
grouping_in notation GroupingStrategy.Auto = default_grouping notation
grouping_in notation grouping = grouping

-- none if bytes begin with 0, or else the numbering system whose name, padded with spaces, they are
abbrev pub system_of : List ℕ → Option (Option (List ℕ))
system_of bytes =
    if slice_index bytes 0 == 0 then Some None else option_map (λ name. Some name) (system_name (unpadded bytes))

-- a number of digits; the greatest of 16 bits is none
abbrev pub given : ℕ → Option ℕ
given n = if n == 65535 then None else Some n

-- one digit or more, and a minus sign below 0
abbrev pub plain : ExponentOptions
plain = record { digits = 1; sign = ExponentSign.Auto }

-- the words of each option, in the order of their numbers
abbrev pub notations : ExponentOptions → List NumberNotation
notations exponent =
    NumberNotation.Standard ∷ NumberNotation.Scientific exponent ∷ NumberNotation.Engineering exponent
    ∷ NumberNotation.Compact CompactLength.Short ∷ NumberNotation.Compact CompactLength.Long ∷ []

abbrev pub priorities : List RoundingPriority
priorities =
    RoundingPriority.Auto ∷ RoundingPriority.MorePrecision ∷ RoundingPriority.LessPrecision ∷ []

abbrev pub trailing_zeros : List TrailingZeros
trailing_zeros = TrailingZeros.Auto ∷ TrailingZeros.StripIfInteger ∷ []

abbrev pub separators : List DecimalSeparatorDisplay
separators = DecimalSeparatorDisplay.Auto ∷ DecimalSeparatorDisplay.Always ∷ []

-- the numbers of the style
abbrev pub style_codes_of : FdNumberOptions → StyleCodes
style_codes_of c = record {
  style = c.style;
  currency = c.currency;
  currency_display = c.currency_display;
  currency_sign = c.currency_sign;
  currency_usage = c.currency_usage;
  unit = c.unit;
  per_unit = c.per_unit;
  unit_display = c.unit_display;
  per_display = 0;
}

-- C passes this style, and ECMA-402 has its unit
pub record IsOptionStyle (c : FdNumberOptions) (s : NumberStyle) : Type 0 where
  pub style : IsStyle (style_codes_of c) s
  pub sanctioned : has_sanctioned_unit s ≡ true

-- C passes these options, apart from the digits
pub record AreChoices (c : FdNumberOptions) (o : NumberOptions) : Type 0 where
  pub style : IsOptionStyle c o.style
  pub scale : o.scale ≡ c.scale
  pub notation : slice_get (notations plain) c.notation ≡ Some o.notation
  pub digits : o.digits ≡ None
  pub sign : c.sign_display ≡ display_code o.sign_display
  pub grouping :
      (g : GroupingStrategy) × (c.grouping ≡ grouping_code g) × (o.grouping ≡ grouping_in o.notation g)
  pub sizes : o.group_sizes ≡ GroupSizes.Locale
  pub separator : slice_get separators c.decimal_separator ≡ Some o.decimal_separator
  pub system : system_of c.numbering_system ≡ Some o.numbering_system

-- C passes these numbers of digits; without an increment that of the style
pub record AreSettings (c : FdNumberOptions) (o : NumberOptions) (s : DigitSettings) : Type 0 where
  pub integer : s.minimum_integer_digits ≡ given c.minimum_integer_digits
  pub least_fraction : s.minimum_fraction_digits ≡ given c.minimum_fraction_digits
  pub most_fraction : s.maximum_fraction_digits ≡ given c.maximum_fraction_digits
  pub least_significant : s.minimum_significant_digits ≡ given c.minimum_significant_digits
  pub most_significant : s.maximum_significant_digits ≡ given c.maximum_significant_digits
  pub step :
      s.rounding_increment ≡ unwrap_or (given c.rounding_increment) (increment o.style (is_compact o.notation))
  pub mode : c.rounding_mode ≡ mode_code s.rounding_mode
  pub priority : slice_get priorities c.rounding_priority ≡ Some s.rounding_priority
  pub zeros : slice_get trailing_zeros c.trailing_zeros ≡ Some s.trailing_zeros

-- the options that C passes: the digits are those that SetNumberFormatDigitOptions of ECMA-402 resolves
abbrev pub AreNumberOptions : FdNumberOptions → NumberOptions → Type 0
AreNumberOptions c o =
    (base : NumberOptions) × (s : DigitSettings) × AreChoices c base × AreSettings c base s × HasDigitsOf base s o

-- no word has a number that C passes
abbrev pub HasUnknownWord : FdNumberOptions → Type 0
HasUnknownWord c =
    ((o : NumberOptions) → AreChoices c o → ⊥)
    ⊎ ((o : NumberOptions) × AreChoices c o × ((s : DigitSettings) → AreSettings c o s → ⊥))

abbrev pub error_of_digits : DigitOptionsError → FdError
error_of_digits DigitOptionsError.IntegerDigits = WrongDigits 0
error_of_digits DigitOptionsError.Increment = WrongDigits 1
error_of_digits DigitOptionsError.SignificantDigits = WrongDigits 2
error_of_digits DigitOptionsError.FractionDigits = WrongDigits 3
error_of_digits DigitOptionsError.IncrementPrecision = WrongDigits 4
error_of_digits DigitOptionsError.IncrementDigits = WrongDigits 5

-- why C passes no options: a word is unknown, or the numbers of digits are none of ECMA-402's
abbrev pub NumberOptionsFail : FdError → FdNumberOptions → Type 0
NumberOptionsFail error c =
    ((error ≡ UnknownOption) × HasUnknownWord c)
    ⊎ ((o : NumberOptions) × (s : DigitSettings) × (e : DigitOptionsError)
    × AreChoices c o × AreSettings c o s × DigitsFail o s e × (error ≡ error_of_digits e))
