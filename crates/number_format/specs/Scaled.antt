-- The significand and the exponent that a notation writes for a number.
use Rattle.std.specs.{Prelude.{◌≡◌, ℕ, ◌+◌, ◌*◌, ◌/◌, ◌^◌, ◌<◌, ◌⊎◌, nat_lt, if◌then◌else◌, slice_index, Option, Some, None, option_map, option_and_then, unsigned_abs, ℤ, pos, ◌+ℤ◌, ◌-ℤ◌, ◌≤ℤ◌, int_lt}, Int.{int_max, int_min, int_rem_euclid}, Option.option_map_or}
use Rattle.decimal_digits.specs.Number.{number_limit, weight, first, last, lowest_magnitude}
use Rattle.fixed_decimal.specs.{Decimal.Decimal, declared.variations.Sign.Sign}
use Rattle.number_format.specs.{declared.{digits.{options.DigitOptions.DigitOptions, precision.Precision.{Precision, TheVariants.Multiples}}, notation.{CompactExponents.CompactExponents, Notation.{Notation, TheVariants.{Standard, Scientific, Engineering, Compact}}}}, ShownDigits.{Rounded, rounded_at, shown, rounded_within, NeedsMemory}}

-- ---- The exponent of a number whose first digit is at a magnitude.
-- the exponent of a compact pattern, from the rows of the magnitudes 3 to 19: 0 below 3, and above 19 that of 19
abbrev pub compact_exponent : CompactExponents → ℤ → ℤ
compact_exponent table m =
    if int_lt m (pos 3) then pos 0
    else pos (slice_index table.rows (unsigned_abs (int_min (int_max m (pos 3)) (pos 19) -ℤ pos 3)))

-- the exponent for a magnitude: by `Engineering` the greatest multiple of 3 that is at most the magnitude
abbrev pub exponent_at : Notation → ℤ → ℤ
exponent_at Standard m = pos 0
exponent_at Scientific m = m
exponent_at Engineering m = m -ℤ int_rem_euclid m (pos 3)
exponent_at (Compact table) m = compact_exponent table m

-- the same, and 0 if it is below 0
abbrev pub exponent_from_0 : Notation → ℤ → ℕ
exponent_from_0 notation m = unsigned_abs (int_max (pos 0) (exponent_at notation m))

-- that of a number
abbrev pub whole_exponent : Notation → ℕ → ℕ
whole_exponent notation n = exponent_from_0 notation (first n)

-- that of a number which was rounded: if the first digit moved up, by however much, that of the next magnitude
abbrev pub carried_exponent : Notation → ℕ → ℕ → ℕ
carried_exponent notation n rounded = exponent_from_0 notation (int_min (first n +ℤ pos 1) (first rounded))

-- the exponent of a number, and 0 if it is above 0
abbrev pub base_exponent : Notation → ℕ → ℤ
base_exponent notation n = int_min (pos 0) (exponent_at notation (first n))

-- the number, multiplied by the power of ten that makes an exponent below 0 one of 0
abbrev pub raised : Notation → ℕ → ℕ
raised notation n = n * 10 ^ unsigned_abs (base_exponent notation n)

-- a rounded number, its exponent, and the magnitude of its quotient down to which zeros are shown
pub record Settled : Type 0 where
  pub exponent : ℕ
  pub number : ℕ
  pub last_shown : ℤ

abbrev pub settled_with : ℕ → Rounded → Settled
settled_with exponent r = record { exponent = exponent; number = r.number; last_shown = r.last_shown }

-- a number whose exponent is 0 or more, rounded with the exponent of its magnitude; if the rounding carried it to a
-- higher magnitude, 1000K, and the next magnitude has a greater exponent, the same rounded with that exponent, 1M
abbrev pub settled : Notation → DigitOptions → Sign → ℕ → Option Settled
settled notation o sign n =
    let exponent = whole_exponent notation n in
    option_and_then (λ r.
    let next = carried_exponent notation n r.number in
    if nat_lt exponent next then option_map (settled_with next) (rounded_within o sign next r.number)
    else Some (settled_with exponent r)) (rounded_within o sign exponent n)

-- the rounded number, with the digits that are cut off; 0 if a limit is passed
abbrev pub rounded_number : Notation → DigitOptions → Decimal → ℕ
rounded_number notation o v =
    option_map_or (λ s. s.number) (settled notation o v.sign (raised notation v.absolute.number)) 0

-- out of memory in the rounding, or in the second one after a carry
abbrev pub ScalingNeedsMemory : ℕ → Notation → DigitOptions → Sign → ℕ → Type 0
ScalingNeedsMemory held notation o sign n =
    let exponent = whole_exponent notation n in
    let made = (rounded_at o sign exponent n).number in
    let next = carried_exponent notation n made in
    NeedsMemory held o sign exponent n ⊎ ((exponent < next) × NeedsMemory held o sign next made)

-- a significand, and the exponent of the power of ten by which it is multiplied
pub record ScaledValue : Type 0 where
  pub significand : Decimal
  pub exponent : ℤ

abbrev pub scaled_value : Decimal → ℤ → ScaledValue
scaled_value significand exponent = record { significand = significand; exponent = exponent }

-- the significand is the rounded number divided by the power of its exponent, with the digits that the options show;
-- none if a digit would be below 10^-32768
abbrev pub written : DigitOptions → Sign → ℤ → Settled → Option ScaledValue
written o sign base s =
    if int_lt (last s.number -ℤ pos s.exponent) lowest_magnitude then None
    else Some (scaled_value (record { sign = sign; absolute = shown o (s.number / 10 ^ s.exponent) s.last_shown })
    (base +ℤ pos s.exponent))

-- the significand and the exponent of a decimal
abbrev pub scaled : Notation → DigitOptions → Decimal → Option ScaledValue
scaled notation o v =
    option_and_then (written o v.sign (base_exponent notation v.absolute.number))
    (settled notation o v.sign (raised notation v.absolute.number))

-- ---- Laws.
-- the precision has no increment
abbrev pub HasNoIncrement : Precision → Type 0
HasNoIncrement (Multiples m) = ⊥
HasNoIncrement precision = Unit {0}

-- from 1 up no exponent of a compact pattern is above its magnitude, or above the exponent of the next magnitude
abbrev pub IsOrdered : Notation → Type 0
IsOrdered (Compact table) =
    (m : ℕ) → (compact_exponent table (pos m) ≤ℤ pos m)
    × (compact_exponent table (pos m) ≤ℤ compact_exponent table (pos (m + 1)))
IsOrdered notation = Unit {0}

-- without an increment, if no integer digit is cut off, the exponent is that of the first digit of the result; one
-- rounding with it makes the same number; and the rounding changes it only by a carry to a power of ten
abbrev pub KeepsExponent : Notation → DigitOptions → Decimal → Type 0
KeepsExponent notation o v =
    HasNoIncrement o.precision → IsOrdered notation → v.absolute.number < number_limit → o.integer.max ≡ 32768
    → (s : ScaledValue) → scaled notation o v ≡ Some s
    → (s.exponent ≡ exponent_at notation (first s.significand.absolute.number +ℤ s.exponent))
    × ((e r : ℕ) → s.exponent ≡ base_exponent notation v.absolute.number +ℤ pos e
    → r ≡ s.significand.absolute.number * 10 ^ e
    → (r ≡ (rounded_at o v.sign e (raised notation v.absolute.number)).number)
    × ((e ≡ whole_exponent notation (raised notation v.absolute.number)) ⊎ (r ≡ weight (first r))))

-- the significand times the power of ten is the rounded number, if no integer digit is cut off
abbrev pub KeepsValueOf : Notation → DigitOptions → Decimal → Type 0
KeepsValueOf notation o v =
    o.integer.max ≡ 32768 → (s : ScaledValue) → scaled notation o v ≡ Some s
    → (t : Settled) × (settled notation o v.sign (raised notation v.absolute.number) ≡ Some t)
    × (s.significand.absolute.number * 10 ^ t.exponent ≡ t.number)
    × (s.exponent ≡ base_exponent notation v.absolute.number +ℤ pos t.exponent)
