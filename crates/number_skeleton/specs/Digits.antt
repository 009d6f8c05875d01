-- The digits that the choices of a skeleton show, by ICU's defaults. An error names the stem that this library has not.
use Rattle.std.specs.{Prelude.{ℕ, ◌-◌, ◌*◌, ◌/◌, ◌%◌, ◌==◌, nat_lt, min, Bool, true, false, ◌||◌, ◌&&◌, not, if◌then◌else◌, ℤ, pos, negsuc, ◌+ℤ◌, int_lt, nat_abs, List, Option, Some, None, unwrap_or, Result, Ok, Err}, Option.option_and_then, Ordering.int_eq}
use Rattle.fixed_decimal.specs.declared.rounding.{SignedRoundingMode.SignedRoundingMode, SignedRoundingMode.TheVariants.{Unsigned}}
use Rattle.decimal_digits.specs.declared.rounding.UnsignedRoundingMode.TheVariants.{HalfEven}
use Rattle.locale_data.specs.{declared.local_currency.CurrencyDigits.CurrencyDigits, Codes.code_of, Currencies.{currency_with, digits_of as listed_digits}}
use Rattle.number_format.specs.{declared.{digits.{options.{DigitOptions.DigitOptions, TrailingZeros.{TrailingZeros, TheVariants.{Auto, StripIfInteger}}}, precision.{Minimum.{Minimum, TheVariants.Chosen}, Precision.Precision}, settings.RoundingPriority.{RoundingPriority, TheVariants.LessPrecision}}, options.CurrencyUsage.{CurrencyUsage, TheVariants.Standard}}, DefaultDigits.usage_digits, Increments.is_increment, ShownDigits.increment_of}
use Rattle.number_format.specs.declared.digits.precision.Precision.TheVariants as precision
use Rattle.number_skeleton.specs.{declared.{error.SkeletonError.{SkeletonError, TheVariants.Unsupported}, choices.{Choices.Choices, ChosenNotation.{ChosenNotation, TheVariants.Compact}, ChosenPrecision.ChosenPrecision, Span.Span, TwoCounts.TwoCounts, ChosenUnit.{ChosenUnit, TheVariants.Currency}}, counts.Counts.Counts, decimal.Decimal.Decimal}, Reading.and_then}
use Rattle.number_skeleton.specs.declared.choices.ChosenPrecision.TheVariants as chosen

abbrev pub unsupported : Span → SkeletonError
unsupported stem = Unsupported stem.start stem.end

-- ---- Values of precisions: numbers of digits and an increment.
pub data PrecisionValue : Type 0 where
  Fraction : ℕ × ℕ → PrecisionValue
  Multiples : ℕ × ℕ → PrecisionValue
  Significant : ℕ × ℕ → PrecisionValue
  More : ℕ × ℕ → ℕ × ℕ → Minimum → PrecisionValue
  Less : ℕ × ℕ → ℕ × ℕ → Minimum → PrecisionValue

abbrev pub precision_value : Precision → PrecisionValue
precision_value (precision.Fraction f) = Fraction (f.min, f.max)
precision_value (precision.Multiples m) = Multiples (m.digits, increment_of m.increment)
precision_value (precision.Significant s) = Significant (s.min, s.max)
precision_value (precision.MorePrecision b) =
    More (b.fraction.min, b.fraction.max) (b.significant.min, b.significant.max) b.minimum
precision_value (precision.LessPrecision b) =
    Less (b.fraction.min, b.fraction.max) (b.significant.min, b.significant.max) b.minimum

-- ---- Numbers of digits, of which the greatest may be any.
abbrev pub counts_within : ℕ → ℕ → Span → ℕ → ℕ → Result (ℕ × ℕ) SkeletonError
counts_within low high stem least greatest =
    if nat_lt least low || (nat_lt high least || nat_lt greatest least) then Err (unsupported stem)
    else Ok (least, greatest)

-- by 65,535 no number is rounded
abbrev pub fraction_of : Counts → Span → Result (ℕ × ℕ) SkeletonError
fraction_of c stem = counts_within 0 32768 stem (min c.min 65535) (min (unwrap_or c.max 65535) 65535)

-- by 65,536 no number is rounded
abbrev pub significant_of : Counts → Span → Result (ℕ × ℕ) SkeletonError
significant_of c stem = counts_within 1 65536 stem (min c.min 65537) (min (unwrap_or c.max 65536) 65536)

-- by 32,768 no digit is cut off
abbrev pub integer_of : Option (Counts × Span) → Result (ℕ × ℕ) SkeletonError
integer_of None = Ok (1, 32768)
integer_of (Some (c, stem)) = counts_within 0 32767 stem (min c.min 65535) (min (unwrap_or c.max 32768) 32768)

-- ---- Increments.
-- the number of fraction digits of an increment as it is written
abbrev pub fraction_digits : ℤ → Option ℕ → ℕ
fraction_digits power (Some bytes) = min bytes 65535
fraction_digits power None = if int_lt power (pos 0) then nat_abs power else 0

-- 10 to the power of the zeros of an increment, or 0 if it has none of the increments
abbrev pub unit_of_zeros : ℤ → ℕ
unit_of_zeros zeros =
    if int_eq zeros (pos 0) then 1
    else if int_eq zeros (pos 1) then 10
    else if int_eq zeros (pos 2) then 100
    else if int_eq zeros (pos 3) then 1000
    else 0

abbrev pub unit_of : ℤ → ℕ → ℕ
unit_of power fraction = unit_of_zeros (power +ℤ pos fraction)

-- a number of fraction digits, and one of the fifteen increments
abbrev pub multiples_of : ℕ → ℕ → Span → Result (ℕ × ℕ) SkeletonError
multiples_of digits increment stem =
    if is_increment increment && not (nat_lt 32768 digits) then Ok (digits, increment) else Err (unsupported stem)

abbrev pub increment_of_decimal : Decimal → Span → Result (ℕ × ℕ) SkeletonError
increment_of_decimal d stem =
    let digits = fraction_digits d.power d.after_point in
    if d.is_negative || (nat_lt 25 d.digits || (int_lt d.power (negsuc 32767) || int_lt (pos 3) d.power))
    then Err (unsupported stem)
    else multiples_of digits (d.digits * unit_of d.power digits) stem

-- ---- Currencies.
-- a number of fraction digits and an increment, 0 if there is none, without a zero at the end of the increment
abbrev pub money_precision : ℕ × ℕ → Span → Result PrecisionValue SkeletonError
money_precision m stem =
    if m.1 == 0 then Ok (Fraction (m.0, m.0))
    else if (m.1 % 10 == 0) && nat_lt 0 m.0
    then and_then (λ n. Ok (Multiples n)) (multiples_of (m.0 - 1) (m.1 / 10) stem)
    else and_then (λ n. Ok (Multiples n)) (multiples_of m.0 m.1 stem)

-- the digits of a currency, if bytes are its code, or else those of one that is not listed
abbrev pub digits_of_code : List ℕ → CurrencyDigits
digits_of_code bytes = listed_digits (option_and_then currency_with (code_of bytes))

abbrev pub currency_digits_of : Option (ChosenUnit × Span) → CurrencyDigits
currency_digits_of (Some (Currency bytes, stem)) = digits_of_code bytes
currency_digits_of unit = listed_digits None

abbrev pub currency_of : Option (ChosenUnit × Span) → CurrencyUsage → Span → Result PrecisionValue SkeletonError
currency_of unit usage stem = money_precision (usage_digits usage (currency_digits_of unit)) stem

-- ---- Precisions.
abbrev pub by_priority : RoundingPriority → Minimum → ℕ × ℕ → ℕ × ℕ → PrecisionValue
by_priority LessPrecision minimum f s = Less f s minimum
by_priority priority minimum f s = More f s minimum

abbrev pub both_of : TwoCounts → Span → Result PrecisionValue SkeletonError
both_of b stem =
    and_then (λ f. and_then (λ s. Ok (by_priority b.priority b.minimum f s)) (significant_of b.significant stem))
    (fraction_of b.fraction stem)

abbrev pub chosen_precision : Option (ChosenUnit × Span) → ChosenPrecision → Span → Result PrecisionValue SkeletonError
chosen_precision unit chosen.Unlimited stem = Ok (Fraction (0, 65535))
chosen_precision unit (chosen.Fraction c) stem = and_then (λ f. Ok (Fraction f)) (fraction_of c stem)
chosen_precision unit (chosen.Significant c) stem = and_then (λ s. Ok (Significant s)) (significant_of c stem)
chosen_precision unit (chosen.Both b) stem = both_of b stem
chosen_precision unit (chosen.Currency usage) stem = currency_of unit usage stem
chosen_precision unit (chosen.Increment d) stem = and_then (λ m. Ok (Multiples m)) (increment_of_decimal d stem)

abbrev pub is_compact : Option (ChosenNotation × Span) → Bool
is_compact (Some (Compact length, stem)) = true
is_compact notation = false

-- without a stem: of a currency its digits, and else six fraction digits
abbrev pub default_precision : Option (ChosenUnit × Span) → Result PrecisionValue SkeletonError
default_precision (Some (Currency code, stem)) = currency_of (Some (Currency code, stem)) Standard stem
default_precision unit = Ok (Fraction (0, 6))

-- in compact notation two significant digits, or all integer digits
abbrev pub precision_by :
    Option (ChosenPrecision × Span) → Bool → Option (ChosenUnit × Span) → Result PrecisionValue SkeletonError
precision_by (Some (p, stem)) compact unit = chosen_precision unit p stem
precision_by None true unit = Ok (More (0, 0) (1, 2) Chosen)
precision_by None false unit = default_precision unit

unfoldable pub precision_of : Choices → Result PrecisionValue SkeletonError
precision_of c = precision_by c.precision (is_compact c.notation) c.unit

-- ---- Digit options.
abbrev pub mode_of : Option (Option SignedRoundingMode × Span) → Result SignedRoundingMode SkeletonError
mode_of (Some (Some mode, stem)) = Ok mode
mode_of (Some (None, stem)) = Err (unsupported stem)
mode_of None = Ok (Unsigned HalfEven)

abbrev pub trailing_zeros_of : Bool → TrailingZeros
trailing_zeros_of strips = if strips then StripIfInteger else Auto

-- digit options by their numbers
pub record DigitsValue : Type 0 where
  pub integer : ℕ × ℕ
  pub precision : PrecisionValue
  pub mode : SignedRoundingMode
  pub trailing_zeros : TrailingZeros

abbrev pub digits_value : DigitOptions → DigitsValue
digits_value d = record {
  integer = (d.integer.min, d.integer.max);
  precision = precision_value d.precision;
  mode = d.mode;
  trailing_zeros = d.trailing_zeros;
}

unfoldable pub digits_of : Choices → Result DigitsValue SkeletonError
digits_of c =
    and_then (λ i. and_then (λ p. and_then (λ m. Ok (record {
      integer = i;
      precision = p;
      mode = m;
      trailing_zeros = trailing_zeros_of c.strips_if_integer;
    })) (mode_of c.mode)) (precision_of c)) (integer_of c.integer)
