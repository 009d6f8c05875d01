-- The digits that ECMA-402's FormatNumericToString shows of a number that is written with an exponent: of its quotient
-- by 10^exponent. Numbers are in units of 10^-32768; magnitudes are those of the quotient. The weight of a magnitude
-- below -32768 is 1 unit: at such a position nothing is rounded.
use Rattle.std.specs.{Prelude.{◌≡◌, ℕ, ◌*◌, ◌%◌, ◌^◌, ◌<◌, max, Bool, true, false, not, ◌||◌, if◌then◌else◌, Option, Some, None, ℤ, pos, ◌+ℤ◌, ◌-ℤ◌, ◌≤ℤ◌, int_lt, int_le}, Int.{int_max, int_min}, Option.option_map_or}
use Rattle.decimal_digits.specs.{Number.{number_limit, weight, first, last, size, lowest_magnitude, highest_magnitude}, Rounding.{step_of, unit_at, rounded_number, DigitRoundingNeedsMemory}, declared.rounding.{RoundError.{RoundError, TheVariants.{Limit, Memory}}, RoundingIncrement.{RoundingIncrement, TheVariants.MultiplesOf1}, UnsignedRoundingMode.UnsignedRoundingMode}}
use Rattle.decimal_unsigned.specs.{Unsigned.Unsigned, Edits.trimmed_end_if_integer, Rounded.reaches_limit}
use Rattle.fixed_decimal.specs.{Decimal.{Decimal, signed_number}, SignedRounding.{mode_at, NamedSigned}, declared.variations.Sign.Sign}
use Rattle.number_format.specs.declared.digits.{options.{DigitOptions.DigitOptions, TrailingZeros.{TrailingZeros, TheVariants.{Auto, StripIfInteger}}}, ranges.{FractionDigits.FractionDigits, Increment.Increment}, precision.{BothDigits.BothDigits, Minimum.{Minimum, TheVariants.{Chosen, Both}}, Precision.{Precision, TheVariants.{Fraction, Multiples, Significant, MorePrecision, LessPrecision}}}}

-- the magnitude of the last of the given number of digits, from a first one down
abbrev pub last_at : ℕ → ℤ → ℤ
last_at count first = first +ℤ pos 1 -ℤ pos count

-- the magnitude of the last of the given number of fraction digits
abbrev pub fraction_end : ℕ → ℤ
fraction_end count = pos 0 -ℤ pos count

-- the magnitude of the first digit of the quotient
abbrev pub first_by : ℕ → ℕ → ℤ
first_by exponent n = first n -ℤ pos exponent

-- the increment as a number
abbrev pub increment_of : Increment → ℕ
increment_of i = step_of i.base * 10 ^ i.zeros

-- the result of a rounding: its unit, the multiple of it that the mode names, the magnitude of the last digit that the
-- rounding keeps (ECMA-402's [[RoundingMagnitude]]), and the magnitude down to which zeros are shown
pub record Rounded : Type 0 where
  pub unit : ℕ
  pub number : ℕ
  pub last_kept : ℤ
  pub last_shown : ℤ

-- ToRawPrecision: 999.5 rounded half-expand to 3 digits is 1000, of which the last one kept is at magnitude 1
unfoldable pub to_precision : UnsignedRoundingMode → ℕ → ℕ → ℕ → ℕ → Rounded
to_precision mode min max exponent n =
    let unit = unit_at MultiplesOf1 (pos exponent +ℤ last_at max (first_by exponent n)) in
    let number = rounded_number mode unit n in
    record {
      unit = unit;
      number = number;
      last_kept = last_at max (first_by exponent number);
      last_shown = last_at min (first_by exponent number);
    }

-- ToRawFixed, with the increment in units of the last digit
unfoldable pub to_fixed : UnsignedRoundingMode → ℕ → ℕ → ℕ → ℕ → ℕ → Rounded
to_fixed mode min max increment exponent n =
    let u = increment * weight (pos exponent +ℤ fraction_end max) in
    record { unit = u; number = rounded_number mode u n; last_kept = fraction_end max; last_shown = fraction_end min }

-- the magnitude down to which the least numbers of digits show zeros, if the rounding to significant digits is chosen
abbrev pub zeros_end : BothDigits → Minimum → Bool → ℤ → ℤ
zeros_end b Chosen true first = last_at b.significant.min first
zeros_end b Chosen false first = fraction_end b.fraction.min
zeros_end b Both chosen first = int_min (last_at b.significant.min first) (fraction_end b.fraction.min)

-- the rounding that is chosen of two, given whether that to significant digits keeps a digit at least as low
abbrev pub one_of : BothDigits → (Bool → Bool) → UnsignedRoundingMode → ℕ → ℕ → Rounded
one_of b choice mode exponent n =
    let s = to_precision mode b.significant.min b.significant.max exponent n in
    let f = to_fixed mode b.fraction.min b.fraction.max 1 exponent n in
    let is_significant = choice (int_le s.last_kept f.last_kept) in
    let r = if is_significant then s else f in
    record r { last_shown = zeros_end b b.minimum is_significant (first_by exponent r.number) }

-- the rounding that a precision chooses; of two by `MorePrecision` the one that keeps a lower digit
unfoldable pub rounded_by : Precision → UnsignedRoundingMode → ℕ → ℕ → Rounded
rounded_by (Fraction f) mode exponent n = to_fixed mode f.min f.max 1 exponent n
rounded_by (Multiples m) mode exponent n = to_fixed mode m.digits m.digits (increment_of m.increment) exponent n
rounded_by (Significant s) mode exponent n = to_precision mode s.min s.max exponent n
rounded_by (MorePrecision b) mode exponent n = one_of b (λ is_finer. is_finer) mode exponent n
rounded_by (LessPrecision b) mode exponent n = one_of b not mode exponent n

-- the rounding of a number with this sign, written with an exponent
abbrev pub rounded_at : DigitOptions → Sign → ℕ → ℕ → Rounded
rounded_at o sign exponent n = rounded_by o.precision (mode_at o.mode sign) exponent n

-- the digits of a rounded number without those above the greatest number of integer digits, and zeros to a magnitude
abbrev pub padded : DigitOptions → ℕ → ℤ → Unsigned
padded o rounded end =
    let number = rounded % weight (pos o.integer.max) in
    record {
      number = number;
      hi = int_max (pos (max o.integer.min 1) -ℤ pos 1) (first number);
      lo = int_min (int_min (int_max end lowest_magnitude) (pos 0)) (last number);
    }

-- without the fraction digits of an integer, if they are stripped
abbrev pub stripped : TrailingZeros → Unsigned → Unsigned
stripped Auto v = v
stripped StripIfInteger v = trimmed_end_if_integer v

-- the digits of a rounded number that options show
abbrev pub shown : DigitOptions → ℕ → ℤ → Unsigned
shown o rounded end = stripped o.trailing_zeros (padded o rounded end)

-- the rounding of a decimal
abbrev pub rounded_with : DigitOptions → ℕ → Decimal → Rounded
rounded_with o exponent v = rounded_at o v.sign exponent v.absolute.number

-- FormatNumericToString: the decimal with the digits that the options show, or none if the rounded number would be
-- 10^32768 or more
abbrev pub applied : DigitOptions → Decimal → Option Decimal
applied o v =
    let r = rounded_with o 0 v in
    if reaches_limit r.number then None else Some (record v { absolute = shown o r.number r.last_shown })

-- `new` is the old decimal by the options, and the rounded number is the multiple that the mode names among all
-- multiples of the unit, positive and negative ones
pub record IsApplied (o : DigitOptions) (old new : Decimal) : Type 0 where
  pub value : applied o old ≡ Some new
  pub named : NamedSigned o.mode (rounded_with o 0 old).unit (signed_number old) (rounded_with o 0 old).number

-- the increment, without zeros
abbrev pub base_of : Precision → RoundingIncrement
base_of (Multiples m) = m.increment.base
base_of precision = MultiplesOf1

-- the position, of a number whose first digit is at a magnitude
abbrev pub position_of : Precision → ℤ → ℤ
position_of (Fraction f) first = fraction_end f.max
position_of (Multiples m) first = fraction_end m.digits +ℤ pos m.increment.zeros
position_of (Significant s) first = last_at s.max first
position_of (MorePrecision b) first = int_min (last_at b.significant.max first) (fraction_end b.fraction.max)
position_of (LessPrecision b) first = int_max (last_at b.significant.max first) (fraction_end b.fraction.max)

-- the position, as a magnitude of the number
abbrev pub position_at : Precision → ℕ → ℕ → ℤ
position_at precision exponent n = pos exponent +ℤ position_of precision (first_by exponent n)

-- a rounding, or none if its number or its position exceeds the limits
abbrev pub rounded_within : DigitOptions → Sign → ℕ → ℕ → Option Rounded
rounded_within o sign exponent n =
    let r = rounded_at o sign exponent n in
    if int_lt highest_magnitude (position_at o.precision exponent n) || reaches_limit r.number then None else Some r

-- the digits of a rounded number that options show, none of which is cut off
abbrev pub shown_whole : DigitOptions → ℕ → ℤ → Unsigned
shown_whole o rounded end =
    stripped o.trailing_zeros (record {
      number = rounded;
      hi = int_max (pos 0) (first rounded);
      lo = int_min (int_min (int_max end lowest_magnitude) (pos 0)) (last rounded);
    })

-- a decimal rounded in standard notation, with all its integer digits; as it is if a limit is passed
abbrev pub rounded_whole : DigitOptions → Decimal → Unsigned
rounded_whole o v =
    option_map_or (λ r. shown_whole o r.number r.last_shown) (rounded_within o v.sign 0 v.absolute.number) v.absolute

-- a rounding below the limit makes one digit more than the `held` that fit without an allocation: by 25 or its tens
abbrev pub NeedsMemory : ℕ → DigitOptions → Sign → ℕ → ℕ → Type 0
NeedsMemory held o sign exponent n =
    DigitRoundingNeedsMemory (base_of o.precision) (size n) (rounded_at o sign exponent n).number held

-- the error: the rounded number is 10^32768 or more, or out of memory
abbrev pub ApplyFails : ℕ → RoundError → DigitOptions → Decimal → Type 0
ApplyFails held Limit o v = applied o v ≡ None
ApplyFails held Memory o v = NeedsMemory held o v.sign 0 v.absolute.number

-- the precision is a number of fraction digits, by 1 or by an increment
abbrev pub IsFractional : Precision → Type 0
IsFractional (Fraction f) = Unit {0}
IsFractional (Multiples m) = Unit {0}
IsFractional precision = ⊥

-- a number with at most the greatest number of fraction digits is kept, and so is the whole value, if it has the range
-- that the options show
abbrev pub KeepsDigits : DigitOptions → FractionDigits → Decimal → Type 0
KeepsDigits o f v =
    o.precision ≡ Fraction f → v.absolute.number % weight (fraction_end f.max) ≡ 0
    → ((rounded_with o 0 v).number ≡ v.absolute.number)
    × (v.absolute.number < number_limit → v.absolute ≡ shown o v.absolute.number (fraction_end f.min)
    → applied o v ≡ Some v)

-- ---- Private: used only in the contracts of private functions, which make one rounding.
-- the rounding to significant digits keeps a digit at least as low as that to fraction digits, if the first digit is at
-- one magnitude before the rounding, and at another after it
abbrev pub is_finer : BothDigits → ℤ → ℤ → Bool
is_finer b before after =
    int_lt (last_at b.significant.max before) (fraction_end b.fraction.max)
    || int_le (last_at b.significant.max after) (fraction_end b.fraction.max)

-- the magnitude down to which a precision shows zeros
abbrev pub last_shown_of : Precision → ℤ → ℤ → ℤ
last_shown_of (Fraction f) before after = fraction_end f.min
last_shown_of (Multiples m) before after = fraction_end m.digits
last_shown_of (Significant s) before after = last_at s.min after
last_shown_of (MorePrecision b) before after = zeros_end b b.minimum (is_finer b before after) after
last_shown_of (LessPrecision b) before after = zeros_end b b.minimum (not (is_finer b before after)) after

-- `new` has the rounded number, and zeros are shown down to a magnitude
pub record IsRoundedAt (o : DigitOptions) (exponent : ℕ) (old new : Decimal) (last_shown : ℤ) : Type 0 where
  pub within : rounded_within o old.sign exponent old.absolute.number ≡ Some (rounded_with o exponent old)
  pub fits : reaches_limit (rounded_with o exponent old).number ≡ false
  pub number : new.absolute.number ≡ (rounded_with o exponent old).number
  pub sign : new.sign ≡ old.sign
  pub shown : last_shown ≡ (rounded_with o exponent old).last_shown
  pub named : NamedSigned o.mode (rounded_with o exponent old).unit (signed_number old)
      (rounded_with o exponent old).number

abbrev pub RoundingFailsAt : ℕ → RoundError → DigitOptions → ℕ → Decimal → Type 0
RoundingFailsAt held Limit o exponent v =
    (first v.absolute.number ≤ℤ highest_magnitude) × (rounded_within o v.sign exponent v.absolute.number ≡ None)
RoundingFailsAt held Memory o exponent v = NeedsMemory held o v.sign exponent v.absolute.number
