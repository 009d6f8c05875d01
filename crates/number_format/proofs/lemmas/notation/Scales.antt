-- The significand and the exponent of a number: the exponent is that of the rounded number, also if it carries.
use lib.Signed.{mag}
use Rattle.std.proofs.{Common.{w16, to_z, of_z, ◌≡◌, ℕ, ◌+◌, ◌-◌, ◌*◌, ◌/◌, ◌^◌, ◌<◌, ◌≤◌, Bool, false, inl, inr, refl, sym, ◌∙◌, ap, arith, subst, ◌%◌}, Math.Nat.{mul_assoc, le-mul_of_pos_right, mul-lt-mul_of_pos_right, mul-mod_left, div-add-mod', div-le_self, pow-le-pow_right}, lemmas.{Int.{ints, clamps}, Bool.{cases_Bool, cases_lt, cases_eq, Decides.nat_tests}}}
use Rattle.std.specs.{Prelude.{if◌then◌else◌, nat_lt, ◌⊎◌, ◌||◌, Option, Some, None, option_map, option_and_then, unsigned_abs, ℤ, pos, negsuc, ◌+ℤ◌, ◌-ℤ◌, ◌≤ℤ◌, int_lt, ◌<ℤ◌}, Int.{int_max, int_min}}
use Rattle.decimal_digits.specs.{Number.{offset, number_limit, first, last, lowest_magnitude, highest_magnitude, weight}, Rounding.{unit_at, rounded_number}, declared.rounding.{RoundingIncrement.TheVariants.MultiplesOf1, UnsignedRoundingMode.UnsignedRoundingMode}}
use Rattle.decimal_unsigned.specs.Rounded.{reaches_limit}
use Rattle.fixed_decimal.specs.{Decimal.Decimal, declared.variations.Sign.Sign, SignedRounding.mode_at}
use Rattle.fixed_decimal.proofs.Calling.{narrow_kept, extent, first_of, last_of, offset_is, ten_pos, powers, first_up, first_zero, first_le}
use Rattle.number_format.specs.{declared.{digits.{options.DigitOptions.DigitOptions, precision.Precision.{Precision, TheVariants.Multiples}}, notation.{Notation.{Notation, TheVariants.{Standard, Scientific, Engineering, Compact}}, CompactExponents.CompactExponents}}, ShownDigits.{Rounded, position_at, rounded_at, rounded_within, shown, base_of}, Scaled.{exponent_from_0, whole_exponent, carried_exponent, base_exponent, raised, Settled, settled_with, settled, ScaledValue, scaled_value, written, scaled, KeepsValueOf, exponent_at, compact_exponent, HasNoIncrement, IsOrdered, KeepsExponent}}
use Rattle.number_format.proofs.lemmas.digits.{Applied.shown_number, Roundings.{chosen, carry_coarser, unit_some, kept, limited, reaches, IsNear, first_near, order}}

-- ---- Shifts.
-- a multiplication moves the first digit up
pub first_shifted : (n e : ℕ) → 0 < n → n * 10 ^ e < number_limit → first (n * 10 ^ e) ≡ first n +ℤ pos e
first_shifted n e some few =
    omega (
      arith,
      ints,
      first_up n e 0 (offset (pos 32768)) (offset (pos 32768)) few
          (omega (arith, few, le-mul_of_pos_right n (ten_pos e))) (omega (arith, ints, offset_is (pos 32768)))
          (omega (arith, ints, offset_is (pos 32768))) some,
      ap first (let same : n * 10 ^ 0 ≡ n = omega arith in same),
    )

-- up to magnitude 2 it stays below the limit
pub raised_below : (n count : ℕ) → n < number_limit → (first n +ℤ pos count) ≤ℤ int_max (first n) (pos 2)
    → n * 10 ^ count < number_limit
raised_below n count few low = elim (cases_lt 0 n) [
  | inr none ↦ grind arith
  | inl some ↦
      let e = extent (offset (pos 32768)) n some few (omega (arith, ints, offset_is (pos 32768))) in
      let most : 10 ^ (e.top + 1 + count) ≤ number_limit =
      pow-le-pow_right (omega arith) (omega (arith, ints, clamps, first_of e, low, e.limit, offset_is (pos 32768))) in
      grind (arith, mul-lt-mul_of_pos_right e.below (ten_pos count), powers (e.top + 1) count (e.top + 1 + count) refl)
]

pub raised_first : (n count : ℕ) → n < number_limit → (first n +ℤ pos count) ≤ℤ int_max (first n) (pos 2)
    → first (n * 10 ^ count) ≤ℤ int_max (first n +ℤ pos count) (pos 0)
raised_first n count few low = grind (arith, ints, clamps, first_shifted, raised_below, first_zero)

-- two multiplications by parts of a power are one
pub raised_twice : (n x y count : ℕ) → x + y ≡ count → n * 10 ^ x * 10 ^ y ≡ n * 10 ^ count
raised_twice n x y count is =
    omega (arith, mul_assoc n (10 ^ x) (10 ^ y), ap (λ m. n * m) (powers x y count (omega arith)))

-- ---- The parts of `scaled`.
not_below : (z : ℤ) → negsuc 32767 ≤ℤ z → int_lt z lowest_magnitude ≡ false
not_below z h = grind (arith, ints)

pub scaled-some : (notation : Notation) (o : DigitOptions) (v : Decimal) (base : ℤ) (number : ℕ) (t : Settled)
    → base ≡ base_exponent notation v.absolute.number → number ≡ v.absolute.number * 10 ^ unsigned_abs base
    → settled notation o v.sign number ≡ Some t → negsuc 32767 ≤ℤ (last t.number -ℤ pos t.exponent)
    → (new : Decimal) (exponent : ℤ) → new.sign ≡ v.sign
    → new.absolute ≡ shown o (t.number / 10 ^ t.exponent) t.last_shown → exponent ≡ base +ℤ pos t.exponent
    → scaled notation o v ≡ Some (scaled_value new exponent)
scaled-some notation o v base number t is shifted settles fits new exponent sign digits sum =
    sym (λ i. option_and_then (written o v.sign (is i))
    (settled notation o v.sign (v.absolute.number * 10 ^ unsigned_abs (is i))))
    ∙ ap (λ n. option_and_then (written o v.sign base) (settled notation o v.sign n)) (sym shifted)
    ∙ (rw (settles, not_below (last t.number -ℤ pos t.exponent) fits)
    (sym (λ i. Some (scaled_value (record { sign = sign i; absolute = digits i }) (sum i)))))

-- the settled number, by the exponents of the first digits as `i16`
pub settled_by : (notation : Notation) (o : DigitOptions) (sign : Sign) (n e next : ℕ) (r : Rounded) (x y : ℤ)
    → mag x < 32768 → mag y < 32768 → x ≡ first n → y ≡ first r.number
    → e ≡ exponent_from_0 notation (to_z w16 (of_z w16 x))
    → next ≡ exponent_from_0 notation (int_min (to_z w16 (of_z w16 x) +ℤ pos 1) (to_z w16 (of_z w16 y)))
    → rounded_within o sign e n ≡ Some r
    → settled notation o sign n
    ≡ (if nat_lt e next then option_map (settled_with next) (rounded_within o sign next r.number)
    else Some (settled_with e r))
settled_by notation o sign n e next r x y small small' is is' e_is next_is within =
    let low : to_z w16 (of_z w16 x) ≡ first n = narrow_kept small ∙ is in
    let high : to_z w16 (of_z w16 y) ≡ first r.number = narrow_kept small' ∙ is' in
    let own : e ≡ whole_exponent notation n = e_is ∙ ap (exponent_from_0 notation) low in
    let carried : next ≡ carried_exponent notation n r.number =
    next_is ∙ (λ i. exponent_from_0 notation (int_min (low i +ℤ pos 1) (high i))) in
    grind arith

-- ---- What a settled number is.
module _ (notation : Notation) (o : DigitOptions) (sign : Sign) (n : ℕ) (s : Settled) where
  abbrev own : ℕ
  own = whole_exponent notation n

  abbrev once : Rounded
  once = rounded_at o sign own n

  -- the exponent of the rounded number
  abbrev after : ℕ
  after = carried_exponent notation n once.number

  abbrev twice : Rounded
  twice = rounded_at o sign after once.number

  below : (r : ℕ) → reaches_limit r ≡ false → r < number_limit
  below r h = grind (arith, nat_tests)

  abbrev exceeds : ℕ → ℕ → Bool
  exceeds e m =
      int_lt highest_magnitude (position_at o.precision e m) || reaches_limit (rounded_at o sign e m).number

  pub within_or_none : (e m : ℕ) → (rounded_within o sign e m ≡ None)
      ⊎ ((rounded_within o sign e m ≡ Some (rounded_at o sign e m)) × ((rounded_at o sign e m).number < number_limit))
  within_or_none e m = grind (arith, below)

  -- the number that is rounded once, or twice if the exponent grows; both are below the limit
  abbrev pub IsOnceOrTwice : Type 0
  IsOnceOrTwice =
      (once.number < number_limit) × (s.number < number_limit)
      × (((s ≡ settled_with own once) × (after ≤ own)) ⊎ ((s ≡ settled_with after twice) × (own < after)))

  pub once_or_twice : settled notation o sign n ≡ Some s → IsOnceOrTwice
  once_or_twice is = grind (arith, nat_tests, within_or_none)

-- ---- The value of the significand and the exponent.
at_lowest : (z : ℤ) → int_lt z lowest_magnitude ≡ false → negsuc 32767 ≤ℤ z
at_lowest z h = grind (arith, ints)

-- a power of ten that divides a number
whole_shift : (n e : ℕ) → n < number_limit → negsuc 32767 ≤ℤ (last n -ℤ pos e) → n / 10 ^ e * 10 ^ e ≡ n
whole_shift n e few fits = elim (cases_lt 0 n) [
  | inr none ↦ grind arith
  | inl some ↦
      let x = extent (offset (pos 32768)) n some few (omega (arith, ints, offset_is (pos 32768))) in
      let split : n ≡ x.factor * 10 ^ (x.bottom - e) * 10 ^ e =
      x.is ∙ sym (raised_twice x.factor (x.bottom - e) e x.bottom (omega (arith, ints, last_of x, fits))) in
      grind (arith, split, mul-mod_left (x.factor * 10 ^ (x.bottom - e)) (10 ^ e), div-add-mod' n (10 ^ e))
]

module _ (notation : Notation) (o : DigitOptions) (v : Decimal) (all : o.integer.max ≡ 32768) (s : ScaledValue) where
  abbrev base : ℤ
  base = base_exponent notation v.absolute.number

  by_settled : (r : Option Settled) → settled notation o v.sign (raised notation v.absolute.number) ≡ r
      → option_and_then (written o v.sign base) r ≡ Some s
      → (t : Settled) × (settled notation o v.sign (raised notation v.absolute.number) ≡ Some t)
      × (s.significand.absolute.number * 10 ^ t.exponent ≡ t.number) × (s.exponent ≡ base +ℤ pos t.exponent)
  by_settled None is none = absurd (cc)
  by_settled (Some t) is some = elim (cases_Bool (int_lt (last t.number -ℤ pos t.exponent) lowest_magnitude)) [
    | inl low ↦ absurd (let none = rw low at some in cc)
    | inr fits ↦
        let made = rw fits at some in
        let few = (once_or_twice notation o v.sign (raised notation v.absolute.number) t is).1 in
        let power = 10 ^ t.exponent in
        let less : t.number / power < number_limit = omega (arith, few, div-le_self t.number power) in
        let number = shown_number o (t.number / power) t.last_shown all less in
        let whole = whole_shift t.number t.exponent few (at_lowest (last t.number -ℤ pos t.exponent) fits) in
        grind arith
  ]

pub keeps_value_of : (notation : Notation) (o : DigitOptions) (v : Decimal) → KeepsValueOf notation o v
keeps_value_of notation o v all s is =
    by_settled notation o v all s (settled notation o v.sign (raised notation v.absolute.number)) refl is

-- ---- The exponents of magnitudes.
-- a compact exponent is not below 0
compact_some : (table : CompactExponents) (m : ℤ) → pos 0 ≤ℤ compact_exponent table m
compact_some table m = grind (arith, ints)

-- up to the magnitude 0 it is 0
pub exponent_low : (notation : Notation) (m : ℤ) → m ≤ℤ pos 0 → exponent_from_0 notation m ≡ 0
exponent_low notation m h = grind (arith, ints, clamps)

-- above, it is at most the magnitude, and at most that of the next magnitude
exponent_most : (notation : Notation) → IsOrdered notation → (m : ℕ)
    → (exponent_from_0 notation (pos m) ≤ m)
    × (exponent_from_0 notation (pos m) ≤ exponent_from_0 notation (pos (m + 1)))
exponent_most notation is m = (grind (arith, ints, clamps), grind (arith, ints, clamps))

-- ---- A rounding without an increment.
base_is : (p : Precision) → HasNoIncrement p → base_of p ≡ MultiplesOf1
base_is p is = grind arith

-- its position is not above the first digit and the exponent
position_most : (p : Precision) → HasNoIncrement p → (e n : ℕ) (top : ℤ) → first n ≤ℤ top → pos e ≤ℤ top
    → position_at p e n ≤ℤ top
position_most p is e n top h k = grind (arith, ints, clamps)

-- a higher exponent gives no lower position
position_up : (p : Precision) → HasNoIncrement p → (low high n : ℕ) → low ≤ high
    → position_at p low n ≤ℤ position_at p high n
position_up (Multiples x) is low high n h = absurd is
position_up p is low high n h = omega (arith, ints, clamps)

-- a number is less than a power of ten above its first digit
below_weight : (n : ℕ) (m : ℤ) → n < number_limit → first n <ℤ m → n < weight m
below_weight n m few above = elim (cases_lt 0 n) [
  | inr none ↦ omega (arith, ten_pos (offset m))
  | inl some ↦
      let e = extent (offset (pos 32768)) n some few (omega (arith, ints, offset_is (pos 32768))) in
      let up : 10 ^ (e.top + 1) ≤ weight m =
      pow-le-pow_right (omega arith) (omega (arith, ints, first_of e, above, offset_is m)) in
      omega (arith, e.below)
]

-- a carry at one position is a carry at each higher one
carry_higher : (mode : UnsignedRoundingMode) (n : ℕ) (p q : ℤ) (k : ℕ) → offset p ≤ offset q → offset q ≤ k
    → n < 10 ^ k → rounded_number mode (unit_at MultiplesOf1 p) n ≡ 10 ^ k
    → rounded_number mode (unit_at MultiplesOf1 q) n ≡ 10 ^ k
carry_higher mode n p q k h l less made = elim (cases_eq (offset p) (offset q)) [
  | inl same ↦ ap (λ o. rounded_number mode (1 * 10 ^ o) n) (sym same) ∙ made
  | inr differ ↦
      let next = powers (offset p) 1 (offset p + 1) refl in
      let much : 10 ^ (offset p + 1) ≤ 10 ^ offset q = pow-le-pow_right (omega arith) (omega (arith, h, differ)) in
      let factor : 10 ^ (k - offset q) ≡ 10 ^ (k - offset q) - 1 + 1 = omega (arith, ten_pos (k - offset q)) in
      let end : 10 ^ k ≡ (10 ^ (k - offset q) - 1 + 1) * 10 ^ offset q =
      powers (k - offset q) (offset q) k (omega (arith, l)) ∙ ap (λ x. x * 10 ^ offset q) factor in
      carry_coarser mode (unit_at MultiplesOf1 p) (unit_at MultiplesOf1 q) n (10 ^ (k - offset q) - 1) (10 ^ k)
      (unit_some mode p) (omega (arith, next, much)) (omega (arith, end)) less made
]

-- ---- A number that is rounded once, or twice.
-- its exponent is that of its magnitude; one rounding with it makes the same number; it is another one than that of the
-- number before only after a carry to a power of ten; and the first digit from magnitude 0 up moves no lower
pub record Settles (notation : Notation) (o : DigitOptions) (sign : Sign) (n : ℕ) (s : Settled) : Type 0 where
  pub own : s.exponent ≡ whole_exponent notation s.number
  pub once : s.number ≡ (rounded_at o sign s.exponent n).number
  pub carry : (s.exponent ≡ whole_exponent notation n) ⊎ (s.number ≡ weight (first s.number))
  pub least : pos 0 ≤ℤ first n → first n ≤ℤ first s.number

module _ (notation : Notation) (o : DigitOptions) (sign : Sign) (n : ℕ) (plain : HasNoIncrement o.precision)
    (ordered : IsOrdered notation) (few : n < number_limit) where
  abbrev mode : UnsignedRoundingMode
  mode = mode_at o.mode sign

  by_1 : (e m : ℕ) → m < number_limit → (rounded_at o sign e m).number
      ≡ rounded_number mode (unit_at MultiplesOf1 (position_at o.precision e m)) m
  by_1 e m less =
      let is = chosen o.precision mode e m less in
      is.number
      ∙ ap (λ u. rounded_number mode u m)
      (is.unit ∙ ap (λ b. unit_at b (position_at o.precision e m)) (base_is o.precision plain))

  abbrev exponent : ℕ
  exponent = whole_exponent notation n

  abbrev position : ℤ
  position = position_at o.precision exponent n

  abbrev made : ℕ
  made = (rounded_at o sign exponent n).number

  abbrev next : ℕ
  next = whole_exponent notation made

  -- below magnitude 0
  module _ (k : ℕ) (at : first n ≡ negsuc k) where
    none : exponent ≡ 0
    none = exponent_low notation (first n) (omega (arith, ints, at))

    none_after : next ≡ 0
    none_after =
        let low =
        position_most o.precision plain exponent n (pos 0) (omega (arith, ints, at)) (omega (arith, ints, none)) in
        let most =
        limited mode position n (offset (pos 0)) (omega (arith, ints, low, offset_is (pos 0), offset_is position))
        (omega (arith, below_weight n (pos 0) few (omega (arith, ints, at)))) in
        let up : 10 ^ (offset (pos 0) + 1) ≡ 10 ^ offset (pos 0) * 10 ^ 1 =
        powers (offset (pos 0)) 1 (offset (pos 0) + 1) refl in
        exponent_low notation (first made)
        (first_le made (pos 0) (omega (arith, by_1 exponent n few, most, up, ten_pos (offset (pos 0))))
        (omega (arith, ints)) (omega (arith, ints)))

  -- from magnitude 0 up
  module _ (k : ℕ) (at : first n ≡ pos k) where
    low : exponent ≤ k
    low = let most = (exponent_most notation ordered k).0 in grind arith

    near : IsNear n made
    near =
        subst (IsNear n) (sym (by_1 exponent n few))
        (first_near mode n position few
        (position_most o.precision plain exponent n (first n) (omega (arith, ints)) (omega (arith, ints, low, at))))

    -- the first digit moves up by at most 1, so the carried exponent is that of the rounded number
    carried_is : carried_exponent notation n made ≡ next
    carried_is =
        let moved : int_min (first n +ℤ pos 1) (first made) ≡ first made = omega (arith, ints, clamps, near.most) in
        ap (exponent_from_0 notation) moved

    -- after a carry a second rounding keeps the number, and a first one with the new exponent makes it
    module _ (more : exponent < next) (fits : made < number_limit) where
      grown : first n <ℤ first made
      grown = elim (order (first n) (first made)) [
        | inl h ↦ h
        | inr stays ↦
            let same : first n ≡ first made = omega (arith, ints, stays, near.least) in
            absurd (omega (arith, ap (exponent_from_0 notation) same, more))
      ]

      there : first made ≡ pos (k + 1)
      there = omega (arith, ints, at, grown, near.most)

      top : next ≤ k + 1
      top = subst (λ m. exponent_from_0 notation m ≤ k + 1) (sym there) ((exponent_most notation ordered (k + 1)).0)

      above : (m : ℕ) → first m ≤ℤ pos (k + 1) → offset (position_at o.precision next m) ≤ offset (first made)
      above m h =
          let below = position_most o.precision plain next m (pos (k + 1)) h (omega (arith, ints, top)) in
          omega (arith, ints, there, offset_is (first made), offset_is (position_at o.precision next m))

      again : (rounded_at o sign next made).number ≡ made
      again =
          let is = near.carried grown in
          by_1 next made fits
          ∙ subst (λ m. rounded_number mode (unit_at MultiplesOf1 (position_at o.precision next made)) m ≡ m) (sym is)
          (kept mode (position_at o.precision next made) (offset (first made))
          (above made (omega (arith, ints, there))))

      directly : (rounded_at o sign next n).number ≡ made
      directly =
          let higher = position_at o.precision next n in
          let up = position_up o.precision plain exponent next n (omega (arith, more)) in
          by_1 next n few
          ∙ carry_higher mode n position higher (offset (first made))
          (omega (arith, ints, up, offset_is position, offset_is higher))
          (above n (omega (arith, ints, at))) (below_weight n (first made) few grown)
          (sym (by_1 exponent n few) ∙ near.carried grown)
          ∙ sym (near.carried grown)

    -- and no exponent falls
    no_fall : exponent ≤ next
    no_fall = elim (order (first n) (first made)) [
      | inl up ↦
          let there : first made ≡ pos (k + 1) = omega (arith, ints, at, up, near.most) in
          let most = (exponent_most notation ordered k).1 in
          grind arith
      | inr stays ↦
          let same : first n ≡ first made = omega (arith, ints, stays, near.least) in
          grind arith
    ]

  -- each settled number
  module _ (s : Settled) (is : settled notation o sign n ≡ Some s) where
    pub settles : (m : ℤ) → first n ≡ m → Settles notation o sign n s
    settles (negsuc k) at = elim (once_or_twice notation o sign n s is).2 [
      | inl kept ↦ let a = none k at in let b = none_after k at in grind (arith, ints)
      | inr twice ↦
          let low : int_min (first n +ℤ pos 1) (first made) ≤ℤ pos 0 = omega (arith, ints, clamps, at) in
          absurd (omega (arith, exponent_low notation (int_min (first n +ℤ pos 1) (first made)) low, twice.1))
    ]
    settles (pos k) at = elim (once_or_twice notation o sign n s is).2 [
      | inl kept ↦ let a = no_fall k at in let b = (near k at).least in let c = carried_is k at in grind arith
      | inr twice ↦
          let fits = (once_or_twice notation o sign n s is).0 in
          let more : exponent < next = omega (arith, twice.1, carried_is k at) in
          let a = again k at more fits in
          let b = directly k at more fits in
          let c = (near k at).carried (grown k at more fits) in
          let d = (near k at).least in
          let e = carried_is k at in
          grind arith
    ]

    -- a number above 0 whose first digit is at magnitude 0 or above stays above 0
    pub stays_above_0 : 0 < n → pos 0 ≤ℤ first n → 0 < s.number
    stays_above_0 some up = elim (cases_lt 0 s.number) [
      | inl h ↦ h
      | inr none ↦
          let law = settles (first n) refl in
          let zero : s.number ≡ 0 = omega (arith, none) in
          let own : s.exponent ≡ 0 =
          law.own ∙ exponent_low notation (first s.number) (omega (arith, ints, ap first zero, first_zero)) in
          let e = extent (offset (pos 32768)) n some few (omega (arith, ints, offset_is (pos 32768))) in
          let p = position_at o.precision s.exponent n in
          let low =
          position_most o.precision plain s.exponent n (first n) (omega (arith, ints)) (omega (arith, ints, own, up)) in
          let reached = reaches mode p n e.top (omega (arith, ints, offset_is p, first_of e, low)) e.reaches in
          absurd (omega (arith, law.once, by_1 s.exponent n few, reached, zero, ten_pos e.top))
    ]

-- ---- The significand and the exponent.
-- an exponent is 0 or more, or at most 2 below the magnitude
pub exponent_least : (notation : Notation) (m : ℤ) → int_min (m -ℤ pos 2) (pos 0) ≤ℤ exponent_at notation m
exponent_least notation m = grind (arith, ints, clamps)

-- the multiple of 3 below a number
engineering_is : (z : ℤ) (a b rest : ℕ) → z +ℤ pos (3 * a) ≡ pos (3 * b + rest) → rest < 3
    → exponent_at Engineering z +ℤ pos (3 * a) ≡ pos (3 * b)
engineering_is z a b rest is h = grind (arith, ints, clamps)

-- the exponent of a magnitude f that is moved by the exponent of another one
moved : (notation : Notation) (m f : ℤ)
    → (pos 0 ≤ℤ (m -ℤ int_min (pos 0) (exponent_at notation m)) → pos 0 ≤ℤ f)
    → int_min (pos 0) (exponent_at notation m) +ℤ pos (exponent_from_0 notation f)
    ≡ exponent_at notation (f +ℤ int_min (pos 0) (exponent_at notation m))
moved Standard m f up = omega (arith, ints, clamps)
moved Scientific m f up = omega (arith, ints, clamps, up (omega (arith, ints, clamps)))
moved Engineering (pos m) (negsuc f) up = absurd (omega (arith, ints, clamps, up (omega (arith, ints, clamps))))
moved Engineering (negsuc m) (negsuc f) up = absurd (omega (arith, ints, clamps, up (omega (arith, ints, clamps))))
moved Engineering (pos m) (pos f) up =
    let zero : int_min (pos 0) (exponent_at Engineering (pos m)) ≡ pos 0 = omega (arith, ints, clamps) in
    let f_is : pos f +ℤ int_min (pos 0) (exponent_at Engineering (pos m)) ≡ pos f = omega (arith, ints, zero) in
    omega (arith, ints, clamps, zero, ap (exponent_at Engineering) f_is)
moved Engineering (negsuc m) (pos f) up =
    let z = pos f +ℤ int_min (pos 0) (exponent_at Engineering (negsuc m)) in
    omega (
      arith,
      ints,
      clamps,
      engineering_is z (m / 3 + 1) (f / 3) (f % 3) (omega (arith, ints, clamps)) (omega arith),
    )
moved (Compact table) m f up =
    let low = compact_some table m in
    let zero : int_min (pos 0) (compact_exponent table m) ≡ pos 0 = omega (arith, ints, clamps, low) in
    let f_is : f +ℤ int_min (pos 0) (compact_exponent table m) ≡ f = omega (arith, ints, zero) in
    omega (arith, ints, clamps, zero, compact_some table f, ap (compact_exponent table) f_is)

-- the first digit of a quotient
first_of_quotient : (n e r : ℕ) → n * 10 ^ e ≡ r → r < number_limit → (r ≡ 0 → e ≡ 0) → first n +ℤ pos e ≡ first r
first_of_quotient n e r is few zero = grind (arith, ints, first_shifted, first_zero)

-- the first digit after the multiplication
pub first_raised : (notation : Notation) (n : ℕ) → raised notation n < number_limit
    → pos 0 ≤ℤ (first n -ℤ base_exponent notation n) → pos 0 ≤ℤ first (raised notation n)
first_raised notation n below up = grind (arith, ints, clamps, first_shifted, first_zero)

module _ (notation : Notation) (o : DigitOptions) (sign : Sign) (n : ℕ) where
  abbrev Law : ℕ → ℕ → Type 0
  Law e r = (r ≡ (rounded_at o sign e n).number) × ((e ≡ whole_exponent notation n) ⊎ (r ≡ weight (first r)))

pub keeps_exponent : (notation : Notation) (o : DigitOptions) (v : Decimal) → KeepsExponent notation o v
keeps_exponent notation o v plain ordered few all s is =
    let n = raised notation v.absolute.number in
    let made = keeps_value_of notation o v all s is in
    let t = made.0 in
    let below =
    raised_below v.absolute.number (unsigned_abs (base_exponent notation v.absolute.number)) few
    (omega (arith, ints, clamps, exponent_least notation (first v.absolute.number))) in
    let law = settles notation o v.sign n plain ordered below t made.1 (first n) refl in
    let less = (once_or_twice notation o v.sign n t made.1).1 in
    let quotient =
    first_of_quotient s.significand.absolute.number t.exponent t.number made.2 less
    (λ zero. law.own ∙ exponent_low notation (first t.number) (omega (arith, ints, ap first zero, first_zero))) in (
      made.3 ∙ ap (λ e. base_exponent notation v.absolute.number +ℤ pos e) law.own
          ∙ moved notation (first v.absolute.number) (first t.number) (λ h.
          let up = first_raised notation v.absolute.number below h in
          omega (arith, ints, up, law.least up))
          ∙ ap (exponent_at notation) (omega (arith, ints, made.3, quotient)),
      λ e r at number.
          let same : t.exponent ≡ e = omega (arith, ints, made.3, at) in
          let r_is : t.number ≡ r = sym made.2 ∙ ap (λ e. s.significand.absolute.number * 10 ^ e) same ∙ sym number in
          subst (λ r. Law notation o v.sign n e r) r_is
          (subst (λ e. Law notation o v.sign n e t.number) same (law.once, law.carry)),
    )

-- a result of zero has the exponent of the number before it is raised, which is 0 or below
pub zero_exponent : (notation : Notation) (o : DigitOptions) (v : Decimal) → HasNoIncrement o.precision
    → IsOrdered notation → v.absolute.number < number_limit → o.integer.max ≡ 32768 → (s : ScaledValue)
    → scaled notation o v ≡ Some s → s.significand.absolute.number ≡ 0
    → s.exponent ≡ base_exponent notation v.absolute.number
zero_exponent notation o v plain ordered few all s is none =
    let n = raised notation v.absolute.number in
    let made = keeps_value_of notation o v all s is in
    let t = made.0 in
    let below =
    raised_below v.absolute.number (unsigned_abs (base_exponent notation v.absolute.number)) few
    (omega (arith, ints, clamps, exponent_least notation (first v.absolute.number))) in
    let law = settles notation o v.sign n plain ordered below t made.1 (first n) refl in
    let zero : t.number ≡ 0 = grind (arith, none, made.2) in
    let low = law.own ∙ exponent_low notation (first t.number) (omega (arith, ints, ap first zero, first_zero)) in
    omega (arith, ints, made.3, low)
