-- What a formatter shows of a value is a value.
use Rattle.std.proofs.{Common.{◌≡◌, ℕ, suc, ◌+◌, ◌-◌, ◌*◌, ◌/◌, ◌%◌, ◌^◌, ◌<◌, ◌≤◌, Bool, true, false, inl, inr, refl, sym, ◌∙◌, ap, subst, arith, mod-lt, mod-eq_of_lt, mul_assoc, mul-div_cancel, mul-lt-mul_of_pos_right, div-lt_iff_lt-mul, div-add-mod'}, Math.Nat.{mul-mod_left, pow-le-pow_right}, lemmas.{Bool.cases_lt, Int.{ints, clamps}}}
use Rattle.std.specs.{Prelude.{Option, Some, None, option_and_then, if◌then◌else◌, ℤ, pos, negsuc, ◌+ℤ◌, ◌-ℤ◌, ◌≤ℤ◌, int_lt}, Int.{int_max, int_min}, Option.option_map_or}
use Rattle.decimal_digits.specs.Number.{offset, weight, first, last, number_limit, lowest_magnitude}
use Rattle.decimal_unsigned.specs.{Edits.{leaves_limits, multiplied, multiplied_pow10}, Unsigned.{Unsigned, IsValue}}
use Rattle.fixed_decimal.specs.Decimal.{Decimal, with_absolute}
use Rattle.fixed_decimal.proofs.Calling.{powers, offset_is, ten_pos, extent, first_of, last_of, first_le, last_zero}
use Rattle.number_format.specs.{declared.{digits.options.{DigitOptions.DigitOptions, TrailingZeros.{TrailingZeros, TheVariants.{Auto, StripIfInteger}}}, format.formatter.NumberFormatter.NumberFormatter, notation.Notation.Notation}, NumberReading.IsShownAs, NumberText.{number_before_cut, rounded_by, rounded_in, shown_number, whole_by, whole_number}, Scaled.{ScaledValue, scaled_value, Settled, base_exponent, raised as raised_to, written, settled, scaled}, ShownDigits.{padded, stripped, shown, shown_whole}}

-- a power of ten divides a number that ends with no fewer zeros
ends_low : (n factor bottom low : ℕ) → low ≤ bottom → n ≡ factor * 10 ^ bottom → n % 10 ^ low ≡ 0
ends_low n factor bottom low h is =
    let split = ap (λ x. factor * x) (powers (bottom - low) low bottom (omega arith)) in
    let all = is ∙ split ∙ sym (mul_assoc factor (10 ^ (bottom - low)) (10 ^ low)) in
    ap (λ x. x % 10 ^ low) all ∙ mul-mod_left (factor * 10 ^ (bottom - low)) (10 ^ low)

module _ (n : ℕ) (few : n < number_limit) where
  last_from : negsuc 32767 ≤ℤ last n
  last_from = elim (cases_lt 0 n) [
    | inl some ↦
        let e = extent (offset (pos 32768)) n some few (omega (arith, ints, offset_is (pos 32768))) in
        omega (arith, ints, last_of e)
    | inr none ↦ grind (arith, ints, last_zero)
  ]

  pub first_to : first n ≤ℤ pos 32767
  first_to =
      let there : offset (pos 32768) ≡ offset (pos 32767) + 1 =
      omega (arith, ints, offset_is (pos 32768), offset_is (pos 32767)) in
      first_le n (pos 32767) (subst (λ k. n < 10 ^ k) there few) (omega (arith, ints)) (omega (arith, ints))

  -- a number within the limits is a value with each range that holds its digits
  in_range : (hi lo : ℤ) → (pos 0 ≤ℤ hi) × (hi ≤ℤ pos 32767) → (negsuc 32767 ≤ℤ lo) × (lo ≤ℤ pos 0) → first n ≤ℤ hi
      → lo ≤ℤ last n → IsValue (record { number = n; hi = hi; lo = lo })
  in_range hi lo highest lowest from to = elim (cases_lt 0 n) [
    | inl some ↦
        let e = extent (offset (pos 32768)) n some few (omega (arith, ints, offset_is (pos 32768))) in
        let top : 10 ^ (e.top + 1) ≤ 10 ^ (offset hi + 1) =
        pow-le-pow_right (omega arith) (omega (arith, ints, first_of e, offset_is hi)) in record {
          hi_in = highest;
          lo_in = lowest;
          below = omega (arith, e.below, top);
          whole = ends_low n e.factor e.bottom (offset lo) (omega (arith, ints, last_of e, offset_is lo)) e.is;
        }
    | inr none ↦
        let zero : n ≡ 0 = omega arith in record {
          hi_in = highest;
          lo_in = lowest;
          below = omega (arith, zero, ten_pos (offset hi + 1));
          whole = ap (λ m. m % weight lo) zero ∙ mod-eq_of_lt (ten_pos (offset lo));
        }
  ]

-- the digits that options show
padded_few : (o : DigitOptions) (r : ℕ) → r % weight (pos o.integer.max) < number_limit
padded_few o r =
    let below : r % weight (pos o.integer.max) < weight (pos o.integer.max) =
    mod-lt r (ten_pos (offset (pos o.integer.max))) in
    let wide : weight (pos o.integer.max) ≤ number_limit =
    pow-le-pow_right (omega arith)
    (omega (arith, ints, o.integer.at_most, offset_is (pos o.integer.max), offset_is (pos 32768))) in
    omega (arith, below, wide)

padded_value : (o : DigitOptions) (r : ℕ) (end : ℤ) → IsValue (padded o r end)
padded_value o r end =
    let n = r % weight (pos o.integer.max) in
    let few = padded_few o r in
    in_range n few (padded o r end).hi (padded o r end).lo
    (omega (arith, ints, clamps), omega (arith, ints, clamps, o.integer.few, first_to n few))
    (omega (arith, ints, clamps, last_from n few), omega (arith, ints, clamps)) (omega (arith, ints, clamps))
    (omega (arith, ints, clamps))

stripped_value : (zeros : TrailingZeros) (v : Unsigned) → v.number < number_limit → first v.number ≤ℤ v.hi
    → IsValue v → IsValue (stripped zeros v)
stripped_value Auto v few from valid = valid
stripped_value StripIfInteger v few from valid = go (int_lt (last v.number) (pos 0)) refl
  where
    go : (b : Bool) → int_lt (last v.number) (pos 0) ≡ b → IsValue (if b then v else record v { lo = pos 0 })
    go true e = valid
    go false e =
        in_range v.number few v.hi (pos 0) valid.hi_in (omega (arith, ints), omega (arith, ints)) from
        (grind (arith, ints))

shown_is_value : (o : DigitOptions) (r : ℕ) (end : ℤ) → IsValue (shown o r end)
shown_is_value o r end =
    stripped_value o.trailing_zeros (padded o r end) (padded_few o r) (omega (arith, ints, clamps))
    (padded_value o r end)

-- all digits of a rounded number
pub whole_is_value : (o : DigitOptions) (r : ℕ) (end : ℤ) → r < number_limit → IsValue (shown_whole o r end)
whole_is_value o r end few =
    let v : Unsigned = record {
      number = r;
      hi = int_max (pos 0) (first r);
      lo = int_min (int_min (int_max end lowest_magnitude) (pos 0)) (last r);
    } in
    stripped_value o.trailing_zeros v few (omega (arith, ints, clamps))
    (in_range r few v.hi v.lo (omega (arith, ints, clamps), omega (arith, ints, clamps, first_to r few))
    (omega (arith, ints, clamps, last_from r few), omega (arith, ints, clamps)) (omega (arith, ints, clamps))
    (omega (arith, ints, clamps)))

-- ---- Times a power of ten.

stays : (b : Bool) (x w : Unsigned) → (if b then None else Some x) ≡ Some w → (b ≡ false) × (x ≡ w)
stays true x w e = absurd (cc)
stays false x w e = (refl, cc)

within : (v : Unsigned) (d : ℤ) → leaves_limits v d ≡ false
    → ((v.hi +ℤ d) ≤ℤ pos 32767) × (negsuc 32767 ≤ℤ (v.lo +ℤ d))
within v d e = (grind (arith, ints), grind (arith, ints))

module _ (v : Unsigned) (valid : IsValue v) where
  quotient : v.number ≡ v.number / weight v.lo * 10 ^ offset v.lo
  quotient = omega (arith, valid.whole, div-add-mod' v.number (weight v.lo))

  raised : (n : ℕ) → ((v.hi +ℤ pos n) ≤ℤ pos 32767) × (negsuc 32767 ≤ℤ (v.lo +ℤ pos n))
      → IsValue (multiplied v (pos n))
  raised n fits =
      let hi = int_max (v.hi +ℤ pos n) (pos 0) in
      let lo = int_min (v.lo +ℤ pos n) (pos 0) in
      let q = v.number / weight v.lo in
      let split = powers (offset v.hi + 1) n (offset v.hi + 1 + n) refl in
      let top : 10 ^ (offset v.hi + 1 + n) ≤ 10 ^ (offset hi + 1) =
      pow-le-pow_right (omega arith) (omega (arith, ints, clamps, valid.hi_in, offset_is v.hi, offset_is hi)) in
      let less : v.number * 10 ^ n < 10 ^ (offset v.hi + 1) * 10 ^ n =
      mul-lt-mul_of_pos_right valid.below (ten_pos n) in
      let is : v.number * 10 ^ n ≡ q * 10 ^ (offset v.lo + n) =
      ap (λ x. x * 10 ^ n) quotient ∙ mul_assoc q (10 ^ offset v.lo) (10 ^ n)
      ∙ ap (λ x. q * x) (sym (powers (offset v.lo) n (offset v.lo + n) refl)) in
      let low : offset lo ≤ offset v.lo + n =
      omega (arith, ints, clamps, valid.lo_in, offset_is v.lo, offset_is lo) in record {
        hi_in = (omega (arith, ints, clamps), omega (arith, ints, clamps, fits));
        lo_in = (omega (arith, ints, clamps, fits), omega (arith, ints, clamps));
        below = omega (arith, split, top, less);
        whole = ends_low (v.number * 10 ^ n) q (offset v.lo + n) (offset lo) low is;
      }

  lowered : (n : ℕ) → ((v.hi +ℤ negsuc n) ≤ℤ pos 32767) × (negsuc 32767 ≤ℤ (v.lo +ℤ negsuc n))
      → IsValue (multiplied v (negsuc n))
  lowered n fits =
      let m = suc n in
      let hi = int_max (v.hi +ℤ negsuc n) (pos 0) in
      let lo = int_min (v.lo +ℤ negsuc n) (pos 0) in
      let q = v.number / weight v.lo in
      let above : offset v.lo ≡ offset lo + m =
      omega (arith, ints, clamps, valid.lo_in, fits, offset_is v.lo, offset_is lo) in
      let is : v.number ≡ q * 10 ^ offset lo * 10 ^ m =
      quotient ∙ ap (λ x. q * x) (powers (offset lo) m (offset v.lo) above)
      ∙ sym (mul_assoc q (10 ^ offset lo) (10 ^ m)) in
      let number : v.number / 10 ^ m ≡ q * 10 ^ offset lo =
      ap (λ x. x / 10 ^ m) is ∙ mul-div_cancel (q * 10 ^ offset lo) (ten_pos m) in
      let split = powers (offset hi + 1) m (offset hi + 1 + m) refl in
      let top : 10 ^ (offset v.hi + 1) ≤ 10 ^ (offset hi + 1 + m) =
      pow-le-pow_right (omega arith) (omega (arith, ints, clamps, valid.hi_in, offset_is v.hi, offset_is hi)) in
      let less : v.number < 10 ^ (offset hi + 1) * 10 ^ m = omega (arith, split, top, valid.below) in record {
        hi_in = (omega (arith, ints, clamps), omega (arith, ints, clamps, fits));
        lo_in = (omega (arith, ints, clamps, fits), omega (arith, ints, clamps));
        below = (div-lt_iff_lt-mul (ten_pos m)).1 less;
        whole = ap (λ x. x % weight lo) number ∙ mul-mod_left q (weight lo);
      }

  multiplied_value : (w : Unsigned) (d : ℤ) → multiplied_pow10 v d ≡ Some w → IsValue w
  multiplied_value w (pos n) e =
      let s = stays (leaves_limits v (pos n)) (multiplied v (pos n)) w e in
      subst IsValue s.1 (raised n (within v (pos n) s.0))
  multiplied_value w (negsuc n) e =
      let s = stays (leaves_limits v (negsuc n)) (multiplied v (negsuc n)) w e in
      subst IsValue s.1 (lowered n (within v (negsuc n) s.0))

-- ---- What is shown.

pub chosen : (b : Bool) (x y : ScaledValue) → (if b then None else Some x) ≡ Some y → x ≡ y
chosen true x y e = absurd (cc)
chosen false x y e = cc

scaled_value_is : (notation : Notation) (o : DigitOptions) (v : Decimal) (x : ScaledValue)
    → scaled notation o v ≡ Some x → IsValue x.significand.absolute
scaled_value_is notation o v x e = go (settled notation o v.sign (raised_to notation v.absolute.number)) e
  where
    base : ℤ
    base = base_exponent notation v.absolute.number

    go : (t : Option Settled) → option_and_then (written o v.sign base) t ≡ Some x → IsValue x.significand.absolute
    go None e = absurd (cc)
    go (Some t) e =
        let same = chosen (int_lt (last t.number -ℤ pos t.exponent) lowest_magnitude)
        (scaled_value (record { sign = v.sign; absolute = shown o (t.number / 10 ^ t.exponent) t.last_shown })
        (base +ℤ pos t.exponent)) x e in
        subst IsValue (ap (λ (s : ScaledValue). s.significand.absolute) same)
        (shown_is_value o (t.number / 10 ^ t.exponent) t.last_shown)

rounded_value : (notation : Notation) (digits : Option DigitOptions) (v : Decimal) (x : ScaledValue)
    → IsValue v.absolute → rounded_in notation digits v ≡ Some x → IsValue x.significand.absolute
rounded_value notation None v x valid e =
    subst IsValue (ap (λ (s : ScaledValue). s.significand.absolute) (chosen false (scaled_value v (pos 0)) x e)) valid
rounded_value notation (Some o) v x valid e = scaled_value_is notation o v x e

-- the number before it is rounded is a value; its sign is shown by what it is rounded to, and compact notation divides
-- it
pub scaled_first : (f : NumberFormatter) (v : Decimal) (x : ScaledValue) → IsValue v.absolute
    → shown_number f v ≡ Some x
    → (w : Decimal) × IsValue w.absolute × (rounded_in f.notation f.digits w ≡ Some x)
    × (number_before_cut f v ≡ rounded_by f.notation f.digits w) × (whole_number f v ≡ whole_by f.digits w)
scaled_first f v x valid is = go (multiplied_pow10 v.absolute f.options.scale) refl is
  where
    go : (a : Option Unsigned) → multiplied_pow10 v.absolute f.options.scale ≡ a
        → option_and_then (rounded_in f.notation f.digits) (with_absolute v a) ≡ Some x
        → (w : Decimal) × IsValue w.absolute × (rounded_in f.notation f.digits w ≡ Some x)
        × (number_before_cut f v ≡ rounded_by f.notation f.digits w) × (whole_number f v ≡ whole_by f.digits w)
    go None e h = absurd (cc)
    go (Some a) e h = (
      record v { absolute = a },
      multiplied_value v.absolute valid a f.options.scale e,
      h,
      ap (λ x. option_map_or (rounded_by f.notation f.digits) (with_absolute v x) 0) e,
      ap (λ x. option_map_or (whole_by f.digits) (with_absolute v x) v.absolute) e,
    )

pub shown_value : (f : NumberFormatter) (v u : Decimal) → IsValue v.absolute → IsShownAs f v u → IsValue u.absolute
shown_value f v u valid shown =
    let w = scaled_first f v shown.number valid shown.number_is in
    subst IsValue (sym shown.absolute) (rounded_value f.notation f.digits w.0 shown.number w.1 w.2)
