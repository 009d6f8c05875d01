-- ECMA-402's SetNumberFormatDigitOptions: the options that the given numbers of digits name, or the error.
use Rattle.std.specs.Prelude.{◌≡◌, ◌≢◌, ℕ, ◌==◌, min, max, nat_le, Bool, true, false, ◌||◌, ◌&&◌, not, if◌then◌else◌, Option, Some, None, unwrap_or, is_some, List, [], ◌∷◌}
use Rattle.number_format.specs.{declared.digits.{options.DigitOptions.DigitOptions, error.DigitOptionsError.DigitOptionsError, precision.{BothDigits.BothDigits, Minimum.TheVariants.Chosen, Precision.{Precision, TheVariants.{Fraction, Multiples, Significant, MorePrecision as Finer, LessPrecision as Coarser}}}, settings.{DigitSettings.DigitSettings, DigitDefaults.DigitDefaults, RoundingPriority.{RoundingPriority, TheVariants.{Auto, MorePrecision, LessPrecision}}}}, Increments.is_increment, ShownDigits.increment_of}
use Rattle.number_format.specs.declared.digits.error.DigitOptionsError.TheVariants as error

abbrev pub is_auto : RoundingPriority → Bool
is_auto Auto = true
is_auto priority = false

-- with a priority both apply; otherwise significant digits if a number of them is given, and else fraction digits, but
-- in compact notation only if a number of them is given
abbrev pub needs_significant : DigitSettings → Bool
needs_significant s =
    not (is_auto s.rounding_priority)
    || (is_some s.minimum_significant_digits || is_some s.maximum_significant_digits)

abbrev pub needs_fraction : DigitSettings → DigitDefaults → Bool
needs_fraction s d =
    not (is_auto s.rounding_priority)
    || not (needs_significant s
    || (d.is_compact && not (is_some s.minimum_fraction_digits || is_some s.maximum_fraction_digits)))

-- the numbers of significant digits; where they do not apply, those of compact notation
abbrev pub significant_of : DigitSettings → ℕ × ℕ
significant_of s =
    if needs_significant s then (unwrap_or s.minimum_significant_digits 1, unwrap_or s.maximum_significant_digits 21)
    else (1, 2)

-- the numbers of fraction digits: one that is not given is the default, if that does not contradict the other one;
-- with an increment the greatest one is by default the least one
abbrev pub fraction_of : DigitSettings → DigitDefaults → ℕ × ℕ
fraction_of s d =
    let least =
    unwrap_or s.minimum_fraction_digits (min d.fraction.min (unwrap_or s.maximum_fraction_digits d.fraction.min)) in
    let most = if s.rounding_increment == 1 then d.fraction.max else d.fraction.min in
    if needs_fraction s d then (least, unwrap_or s.maximum_fraction_digits (max most least)) else (0, 0)

abbrev pub counts : ℕ → ℕ → ℕ × ℕ
counts least greatest = (least, greatest)

-- both roundings, with the zeros of the one that is chosen
abbrev pub IsBoth : BothDigits → ℕ × ℕ → ℕ × ℕ → Type 0
IsBoth b f s =
    (counts b.fraction.min b.fraction.max ≡ f) × (counts b.significant.min b.significant.max ≡ s) × (b.minimum ≡ Chosen)

-- the precision of these numbers of fraction and of significant digits and an increment, by a priority, and whether
-- significant digits apply and fraction digits apply
abbrev pub IsNamed : ℕ × ℕ → ℕ × ℕ → ℕ → RoundingPriority → Bool → Bool → Precision → Type 0
IsNamed f s increment MorePrecision significant fraction (Finer b) = IsBoth b f s
IsNamed f s increment LessPrecision significant fraction (Coarser b) = IsBoth b f s
IsNamed f s increment Auto true fraction (Significant x) = counts x.min x.max ≡ s
IsNamed f s increment Auto false false (Finer b) = IsBoth b f s
IsNamed f s increment Auto false true (Fraction x) = (increment ≡ 1) × (counts x.min x.max ≡ f)
IsNamed f s increment Auto false true (Multiples x) =
    (increment ≢ 1) × (increment_of x.increment ≡ increment) × (counts x.digits x.digits ≡ f)
IsNamed f s increment priority significant fraction precision = ⊥

-- the options that the settings and the defaults name
pub record IsResolved (s : DigitSettings) (d : DigitDefaults) (o : DigitOptions) : Type 0 where
  pub integer : counts o.integer.min o.integer.max ≡ (unwrap_or s.minimum_integer_digits 1, 32768)
  pub precision : IsNamed (fraction_of s d) (significant_of s) s.rounding_increment s.rounding_priority
      (needs_significant s) (needs_fraction s d) o.precision
  pub mode : o.mode ≡ s.rounding_mode
  pub trailing_zeros : o.trailing_zeros ≡ s.trailing_zeros

-- ---- The error.
-- two numbers are in order, and within a range
abbrev pub are_within : ℕ → ℕ → ℕ × ℕ → Bool
are_within low high c = nat_le low c.0 && (nat_le c.0 c.1 && nat_le c.1 high)

-- the numbers of fraction digits that are given are at most 100, and the two are in order, if they apply
abbrev pub are_fraction : DigitSettings → DigitDefaults → Bool
are_fraction s d =
    not (needs_fraction s d)
    || (nat_le (unwrap_or s.minimum_fraction_digits 0) 100 && nat_le (unwrap_or s.maximum_fraction_digits 0) 100
    && nat_le (fraction_of s d).0 (fraction_of s d).1)

-- the error of the first test that fails
abbrev pub first_error : List (Bool × DigitOptionsError) → Option DigitOptionsError
first_error [] = None
first_error ((holds, e) ∷ tests) = if holds then first_error tests else Some e

-- what an increment needs: fraction digits, and one number of them
abbrev pub increment_tests : DigitSettings → DigitDefaults → List (Bool × DigitOptionsError)
increment_tests s d =
    (s.rounding_increment == 1 || (not (needs_significant s) && needs_fraction s d), error.IncrementPrecision)
    ∷ (s.rounding_increment == 1 || (fraction_of s d).0 == (fraction_of s d).1, error.IncrementDigits) ∷ []

-- the error, if there is one
abbrev pub resolve_error : DigitSettings → DigitDefaults → Option DigitOptionsError
resolve_error s d =
    first_error ((are_within 1 21 (unwrap_or s.minimum_integer_digits 1, 21), error.IntegerDigits)
    ∷ (is_increment s.rounding_increment, error.Increment)
    ∷ (are_within 1 21 (significant_of s), error.SignificantDigits)
    ∷ (are_fraction s d, error.FractionDigits) ∷ increment_tests s d)
