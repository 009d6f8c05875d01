-- The options of the stems of skeletons.
use Rattle.std.specs.{Prelude.{ℕ, ◌+◌, ◌==◌, nat_lt, nat_le, nat_eq, Bool, ◌||◌, ◌&&◌, not, if◌then◌else◌, List, [], ◌∷◌, length, drop, slice_index, find, is_none, codes, Option, Some, None}, List.starts_with, Option.{option_map, option_and_then}}
use Rattle.fixed_decimal.specs.declared.variations.SignDisplay.TheVariants as display
use Rattle.locale_names.specs.Units.{Indices}
use Rattle.locale_data.specs.declared.{currency.CurrencySign.TheVariants.Standard, tables.symbols.TheConstants.NUMBERING_SYSTEMS}
use Rattle.number_format.specs.declared.{options.ExponentSign.ExponentSign, digits.{precision.Minimum.Minimum, settings.RoundingPriority.{RoundingPriority, TheVariants.{MorePrecision, LessPrecision}}}}
use Rattle.number_format.specs.declared.options.ExponentSign.TheVariants as sign
use Rattle.number_format.specs.declared.digits.precision.Minimum.TheVariants as minimum
use Rattle.number_skeleton.specs.{declared.{choices.{Choice.Choice, ChosenUnit.ChosenUnit, Exponent.Exponent}, counts.Counts.Counts, meaning.{Expected.Expected, Meaning.Meaning}}, Counts.{run, is_byte, is_wild}, Decimal.decimal, Identifiers.is_identifier, Units.{hundredth, units_named, measured, measured_unit}, Words.{is_name, named, is_algorithmic}}
use Rattle.number_skeleton.specs.declared.choices.Choice.TheVariants as choice
use Rattle.number_skeleton.specs.declared.choices.ChosenNotation.TheVariants as notation
use Rattle.number_skeleton.specs.declared.choices.ChosenPerUnit.TheVariants as per
use Rattle.number_skeleton.specs.declared.choices.ChosenPrecision.TheVariants as precision
use Rattle.number_skeleton.specs.declared.choices.ChosenUnit.TheVariants as unit
use Rattle.number_skeleton.specs.declared.meaning.Expected.TheVariants as expected

-- an option that none may follow
abbrev pub last : Choice → Option Meaning
last c = Some (record { choice = c; expected = expected.Stem })

-- ---- Exponents.
-- of the signs of an exponent only two differ from the usual one
abbrev pub chosen_exponent_sign : Choice → Option ExponentSign
chosen_exponent_sign (choice.Sign display.Always Standard) = Some sign.Always
chosen_exponent_sign (choice.Sign display.Never Standard) = Some sign.Never
chosen_exponent_sign (choice.Sign _ _) = Some sign.Auto
chosen_exponent_sign c = None

abbrev pub sign_option : List ℕ → Option ExponentSign
sign_option text = option_and_then (λ m. chosen_exponent_sign m.choice) (named text)

-- `*ee` is at least two digits
abbrev pub changed_exponent : Exponent → List ℕ → Option Exponent
changed_exponent exponent text =
    let digits = drop 1 text in
    if (slice_index text 0 == 42 || slice_index text 0 == 43) && (run 101 101 digits == length digits)
    then Some (record exponent { digits = length digits })
    else option_map (λ s. record exponent { sign = s }) (sign_option text)

abbrev pub exponent_option : Exponent → List ℕ → Option Meaning
exponent_option exponent text =
    option_map (λ e. record { choice = choice.Notation (notation.Exponent e); expected = expected.Exponent e })
    (changed_exponent exponent text)

-- ---- Currencies.
-- the bytes of codes: letters, digits and some signs
abbrev pub is_code_byte : ℕ → Bool
is_code_byte c =
    c == 34 || c == 95 || (nat_le 37 c && nat_le c 46) || (nat_le 48 c && nat_le c 63)
    || (nat_le 65 c && nat_le c 90) || (nat_le 97 c && nat_le c 122)

abbrev pub currency_option : List ℕ → Option Meaning
currency_option text =
    let first = slice_index text 0 in
    let second = slice_index text 1 in
    let third = slice_index text 2 in
    if (length text == 3) && is_code_byte first && is_code_byte second && is_code_byte third
    then last (choice.Unit (unit.Currency (first ∷ second ∷ third ∷ [])))
    else None

-- ---- Units.
-- the units that a text names, or a unit of ICU that this library does not have
abbrev pub units_of : List ℕ → Option Indices → Option ChosenUnit
units_of text (Some units) = Some (unit.Units units)
units_of text None = if is_identifier text then Some unit.Other else None

abbrev pub unit_of : List ℕ → Option ChosenUnit → Option ChosenUnit
unit_of text (Some hundredth) = Some hundredth
unit_of text None = units_of text (units_named text)

-- `meter`, or two units: `gram-per-second`
abbrev pub unit_option : List ℕ → Option Meaning
unit_option text = option_and_then (λ u. last (choice.Unit u)) (unit_of text (hundredth text))

-- ICU finds a unit in `currency-EUR` too, with which it fails
abbrev pub is_currency : List ℕ → Bool
is_currency text = (length text == 12) && starts_with nat_eq text (codes "currency-")

-- `length-meter`
abbrev pub measure_option : List ℕ → Option Meaning
measure_option text =
    if is_currency text then last (choice.Unit unit.Other)
    else option_and_then (λ index. last (choice.Unit (measured_unit index))) (measured text)

abbrev pub per_option : List ℕ → Option Meaning
per_option text =
    if is_currency text then last (choice.PerUnit per.Other)
    else option_and_then (λ index. last (choice.PerUnit (per.Unit index))) (measured text)

-- ---- Integer digits: `*00` is at least two, `##00` two to four.
abbrev pub integer_option : List ℕ → Option Meaning
integer_option text =
    let is_least = slice_index text 0 == 42 || slice_index text 0 == 43 in
    let zeros = drop (if is_least then 1 else run 35 35 text) text in
    if nat_lt (run 48 48 zeros) (length zeros) then None
    else last (choice.Integer (record {
      min = length zeros;
      max = if is_least then None else Some (length text);
    }))

-- ---- Numbering systems.
-- the name, padded with spaces, of a system with digits
abbrev pub decimal_system : List ℕ → Option (List ℕ)
decimal_system text = option_map (λ s. s.name) (find (λ s. is_name s.name text) NUMBERING_SYSTEMS)

abbrev pub system_option : List ℕ → Option Meaning
system_option text =
    if is_none (decimal_system text) && not (is_algorithmic text) then None
    else last (choice.System (decimal_system text))

-- ---- Decimals.
abbrev pub scale_option : List ℕ → Option Meaning
scale_option text = option_and_then (λ d. last (choice.Scale d)) (decimal text)

abbrev pub increment_option : List ℕ → Option Meaning
increment_option text =
    option_map (λ d. record {
      choice = choice.Precision (precision.Increment d);
      expected = expected.StripIfInteger;
    }) (decimal text)

-- ---- Precisions.
abbrev pub both : Counts → Counts → RoundingPriority → Minimum → Option Meaning
both fraction significant priority least =
    Some (record {
      choice = choice.Precision (precision.Both (record {
        fraction = fraction;
        significant = significant;
        priority = priority;
        minimum = least;
      }));
      expected = expected.StripIfInteger;
    })

abbrev pub strip_option : List ℕ → Option Meaning
strip_option text = if is_byte 119 text then last choice.StripIfInteger else None

-- the numbers of digits from `min` to `max`
abbrev pub from_to : ℕ → ℕ → Counts
from_to min max = record { min = min; max = Some max }

-- beside fraction digits: `@@*`, `@##`, or `@@#` and a priority, `r` or `s`; or `w`
abbrev pub significant_option : Counts → List ℕ → Option Meaning
significant_option fraction text =
    let least = run 64 64 text in
    let rest = drop least text in
    let greatest = least + run 35 35 rest in
    let priority = drop greatest text in
    if least == 0 then strip_option text
    else if is_wild rest then both fraction (from_to 1 least) MorePrecision minimum.Both
    else if (length priority == 0) && (least == 1) then both fraction (from_to 1 greatest) LessPrecision minimum.Both
    else if is_byte 114 priority then both fraction (from_to least greatest) MorePrecision minimum.Chosen
    else if is_byte 115 priority then both fraction (from_to least greatest) LessPrecision minimum.Chosen
    else None

-- what an option means, if it is one of those that are expected
abbrev pub option : Expected → List ℕ → Option Meaning
option expected.Stem text = None
option (expected.Exponent exponent) text = exponent_option exponent text
option expected.Currency text = currency_option text
option expected.Integer text = integer_option text
option expected.System text = system_option text
option expected.Scale text = scale_option text
option expected.Increment text = increment_option text
option expected.Unit text = unit_option text
option expected.MeasureUnit text = measure_option text
option expected.PerMeasureUnit text = per_option text
option expected.Usage text = last choice.Nothing
option (expected.Significant fraction) text = significant_option fraction text
option expected.StripIfInteger text = strip_option text
