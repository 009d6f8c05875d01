-- The first digit of a number before and after a rounding, and the rounding that a precision chooses of two.
use Rattle.std.proofs.{Common.{◌≡◌, ℕ, zero, suc, ◌+◌, ◌-◌, ◌*◌, ◌^◌, ◌<◌, ◌≤◌, inl, inr, refl, sym, ◌∙◌, ap, subst, arith, rules, ◌%◌, Bool, true}, lemmas.{Int.{ints, clamps}, Bool.{cases_lt, Decides.nat_tests}, Nat.mod-mul-add}, Math.Nat.mul_assoc}
use Rattle.std.specs.{Prelude.{◌⊎◌, nat_le, ℤ, pos, ◌+ℤ◌, ◌≤ℤ◌, ◌<ℤ◌, not, if◌then◌else◌, int_le}, Int.{int_max, int_min}}
use Rattle.decimal_digits.specs.{Number.{offset, number_limit, magnitude_at, weight, first}, Rounding.{unit_at, rounded_number, above, step_of}, declared.rounding.{RoundingIncrement.TheVariants.MultiplesOf1, UnsignedRoundingMode.{UnsignedRoundingMode, TheVariants.Trunc}}}
use Rattle.fixed_decimal.proofs.Calling.{Extent, extent, first_of, offset_is, ten_pos, powers, first_is, greatest_is, rounded_number-multiple, rounded_number-monotone, weight_up}
use Rattle.number_format.specs.{declared.digits.{ranges.FractionMultiples.FractionMultiples, precision.{BothDigits.BothDigits, Precision.{Precision, TheVariants.{MorePrecision, LessPrecision}}}}, ShownDigits.{last_at, fraction_end, first_by, increment_of, Rounded, to_precision, to_fixed, zeros_end, one_of, rounded_by, base_of, position_of, position_at, is_finer, last_shown_of}}

-- no search for the first digit goes above 65535
first_highest : (n k : ℕ) → k + 1 ≡ 65536 → 10 ^ k ≤ n → first n ≡ magnitude_at k
unfolding first
first_highest zero k last h = absurd (omega (arith, ten_pos k))
first_highest (suc n) k last h =
    ap magnitude_at
    (greatest_is (λ i. nat_le (10 ^ i) (suc n)) 65536 k (omega arith) (search (rules, h)) (grind arith))

-- 0 is rounded to 0
pub rounded_zero : (mode : UnsignedRoundingMode) (unit n : ℕ) → 0 < unit → n ≡ 0 → rounded_number mode unit n ≡ n
rounded_zero mode unit n some none = grind (arith, rounded_number-multiple mode unit 0 some)

-- of two magnitudes one is less, or is not
pub order : (a b : ℤ) → (a <ℤ b) ⊎ (b ≤ℤ a)
order a b = grind (arith, ints)

-- ---- Powers of ten at the position of a rounding or above.
module _ (mode : UnsignedRoundingMode) (position : ℤ) where
  abbrev unit : ℕ
  unit = unit_at MultiplesOf1 position

  pub unit_some : 0 < unit
  unit_some = omega (arith, ten_pos (offset position))

  -- each is kept
  pub kept : (k : ℕ) → offset position ≤ k → rounded_number mode unit (10 ^ k) ≡ 10 ^ k
  kept k h =
      let split : 10 ^ k ≡ 10 ^ (k - offset position) * unit =
      omega (arith, powers (k - offset position) (offset position) k (omega arith)) in
      subst (λ m. rounded_number mode unit m ≡ m) (sym split)
      (rounded_number-multiple mode unit (10 ^ (k - offset position)) unit_some)

  -- a number that is no less is rounded to no less
  pub reaches : (n k : ℕ) → offset position ≤ k → 10 ^ k ≤ n → 10 ^ k ≤ rounded_number mode unit n
  reaches n k above h =
      subst (λ m. m ≤ rounded_number mode unit n) (kept k above)
      (rounded_number-monotone mode unit (10 ^ k) n unit_some h)

  -- and one that is no more to no more
  pub limited : (n k : ℕ) → offset position ≤ k → n ≤ 10 ^ k → rounded_number mode unit n ≤ 10 ^ k
  limited n k above h =
      subst (λ m. rounded_number mode unit n ≤ m) (kept k above)
      (rounded_number-monotone mode unit n (10 ^ k) unit_some h)

-- ---- A number that is rounded at its first digit or below.
-- its first digit stays, or moves up by one magnitude, and the number is then a power of ten
pub record IsNear (n new : ℕ) : Type 0 where
  pub least : first n ≤ℤ first new
  pub most : first new ≤ℤ (first n +ℤ pos 1)
  pub carried : first n <ℤ first new → new ≡ weight (first new)

module _ (mode : UnsignedRoundingMode) (n : ℕ) (position : ℤ) (few : n < number_limit)
    (below : position ≤ℤ first n) where
  abbrev new : ℕ
  new = rounded_number mode (unit_at MultiplesOf1 position) n

  module _ (e : Extent n) where
    stays : first new ≡ magnitude_at e.top → IsNear n new
    stays same = grind (arith, ints, first_of e)

    near : IsNear n new
    near =
        let above : offset position ≤ e.top = omega (arith, ints, offset_is position, first_of e, below) in
        let reached = reaches mode position n e.top above e.reaches in
        let most = limited mode position n (e.top + 1) (omega (arith, above)) (omega (arith, e.below)) in
        elim (cases_lt new (10 ^ (e.top + 1))) [
          | inl less ↦ stays (first_is new e.top reached less e.limit)
          | inr full ↦ elim (cases_lt (e.top + 1) 65536) [
            | inr last ↦
                let top : e.top ≡ 65535 = omega (arith, e.limit) in
                stays (first_highest new e.top (omega (arith, top)) reached)
            | inl fits ↦
                let next : 10 ^ (e.top + 1 + 1) ≡ 10 ^ (e.top + 1) * 10 ^ 1 =
                powers (e.top + 1) 1 (e.top + 1 + 1) refl in
                let up = first_is new (e.top + 1) full (omega (arith, most, next, ten_pos (e.top + 1))) fits in
                let at : e.top + 1 ≡ offset (first new) = omega (arith, ints, offset_is (first new), up) in
                record {
                  least = omega (arith, ints, up, first_of e);
                  most = omega (arith, ints, up, first_of e);
                  carried = λ h. subst (λ k. new ≡ 10 ^ k) at (omega (arith, full, most));
                }
          ]
        ]

  pub first_near : IsNear n new
  first_near = elim (cases_lt 0 n) [
    | inl some ↦ near (extent (offset (pos 32768)) n some few (omega (arith, ints, offset_is (pos 32768))))
    | inr none ↦
        let zero = rounded_zero mode (unit_at MultiplesOf1 position) n (unit_some mode position) (omega arith) in
        subst (IsNear n) (sym zero) (grind (arith, ints))
  ]

-- ---- A carry.
-- a number is rounded to less than one unit more
less_up : (mode : UnsignedRoundingMode) (u n : ℕ) → 0 < u → rounded_number mode u n < n + u
unfolding rounded_number
less_up mode u n some = grind (arith, nat_tests)

module _ (u n j : ℕ) (less : n < j * u + u) (high : 2 * (j * u) + u < 2 * n) where
  rest : n % u ≡ n - j * u
  rest = grind (arith, mod-mul-add)

  -- a number that is less than half a unit below a multiple is rounded to it
  rounds_up : (mode : UnsignedRoundingMode) → (mode ≡ Trunc → ⊥) → rounded_number mode u n ≡ j * u + u
  unfolding rounded_number
  rounds_up mode not = let r = rest in grind (arith, nat_tests)

-- and by `Trunc` to no more
trunc_low : (mode : UnsignedRoundingMode) (u n : ℕ) → mode ≡ Trunc → rounded_number mode u n ≤ n
unfolding rounded_number
trunc_low mode u n is = grind arith

-- a carry to a multiple by one unit is one by a unit that is at least twice as great
pub carry_coarser : (mode : UnsignedRoundingMode) (u coarse n j end : ℕ) → 0 < u → 2 * u ≤ coarse
    → end ≡ j * coarse + coarse → n < end → rounded_number mode u n ≡ end → rounded_number mode coarse n ≡ end
carry_coarser mode u coarse n j end some much is less e =
    rounds_up coarse n j (omega (arith, is, less)) (omega (arith, is, e, less_up mode u n some, much)) mode
    (λ trunc. absurd (omega (arith, trunc_low mode u n trunc, e, less)))
    ∙ sym is

-- the rounding that a precision chooses is the one at its position
pub record IsChosen (p : Precision) (mode : UnsignedRoundingMode) (exponent n : ℕ) : Type 0 where
  pub unit : (rounded_by p mode exponent n).unit ≡ unit_at (base_of p) (position_at p exponent n)
  pub number : (rounded_by p mode exponent n).number ≡ rounded_number mode (rounded_by p mode exponent n).unit n
  pub last_shown : (rounded_by p mode exponent n).last_shown
      ≡ last_shown_of p (first_by exponent n) (first_by exponent (rounded_by p mode exponent n).number)

-- an increment with zeros
multiples_unit : (m : FractionMultiples) (exponent : ℕ)
    → increment_of m.increment * weight (pos exponent +ℤ fraction_end m.digits)
    ≡ unit_at m.increment.base (pos exponent +ℤ (fraction_end m.digits +ℤ pos m.increment.zeros))
multiples_unit m exponent =
    let low = pos exponent +ℤ fraction_end m.digits in
    let up = weight_up low m.increment.zeros (omega (arith, ints, m.at_most)) in
    let same : low +ℤ pos m.increment.zeros ≡ pos exponent +ℤ (fraction_end m.digits +ℤ pos m.increment.zeros) =
    omega (arith, ints) in
    let split = mul_assoc (step_of m.increment.base) (10 ^ m.increment.zeros) (weight low) in
    omega (arith, split, ap (λ w. step_of m.increment.base * w) (sym (ap weight same) ∙ up))

-- ---- Two roundings.
module _ (b : BothDigits) (exponent : ℕ) (mode : UnsignedRoundingMode) (n : ℕ) where
  -- the two, and the position of each
  abbrev s : Rounded
  s = to_precision mode b.significant.min b.significant.max exponent n

  abbrev f : Rounded
  f = to_fixed mode b.fraction.min b.fraction.max 1 exponent n

  abbrev fine : ℤ
  fine = last_at b.significant.max (first_by exponent n)

  abbrev end : ℤ
  end = fraction_end b.fraction.max

  -- a precision that chooses one of them
  by_choice : (p : Precision) (t : Bool) → rounded_by p mode exponent n ≡ one_of b (λ _. t) mode exponent n
      → base_of p ≡ MultiplesOf1 → position_of p (first_by exponent n) ≡ (if t then fine else end)
      → last_shown_of p (first_by exponent n) (first_by exponent (if t then s else f).number)
      ≡ zeros_end b b.minimum t (first_by exponent (if t then s else f).number)
      → IsChosen p mode exponent n
  unfolding to_precision to_fixed
  by_choice p t is base there shown = record { unit = grind arith; number = grind arith; last_shown = grind arith }

  -- the number that a rounding by 1 at a position makes
  abbrev at : ℤ → ℕ
  at position = rounded_number mode (unit_at MultiplesOf1 (pos exponent +ℤ position)) n

  -- the rounding to significant digits keeps the lower digit; and the test for it after the rounding at a position
  abbrev lower : Bool
  lower = int_le (last_at b.significant.max (first_by exponent (at fine))) end

  abbrev finer_at : ℤ → Bool
  finer_at position = is_finer b (first_by exponent n) (first_by exponent (at position))

  module _ (few : n < number_limit) where
    near_at : (position : ℤ) → position ≤ℤ fine → IsNear n (at position)
    near_at position h =
        first_near mode n (pos exponent +ℤ position) few
        (omega (arith, ints, h, b.significant.some, b.significant.ordered))

    near_fine : IsNear n (at fine)
    near_fine = near_at fine (omega (arith, ints))

    -- the digit that the rounding to significant digits keeps is at its position, or one magnitude higher
    below_end : fine <ℤ end → lower ≡ true
    below_end h = grind (arith, ints, near_fine)

    test_fine : finer_at fine ≡ lower
    test_fine = grind (arith, ints, near_fine)

    test_end : finer_at end ≡ lower
    test_end = elim (order end fine) [
      | inl up ↦
          let high = (near_at end (omega (arith, ints, up))).least in
          let least = near_fine.least in
          grind (arith, ints)
      | inr down ↦ elim (order fine end) [
        | inl less ↦ grind (arith, ints, below_end)
        | inr up ↦ subst (λ p. finer_at p ≡ lower) (omega (arith, ints, down, up)) test_fine
      ]
    ]

    -- the number that is chosen
    chosen_test : (t : Bool)
        → is_finer b (first_by exponent n) (first_by exponent (if t then s else f).number) ≡ lower
    unfolding to_precision to_fixed
    chosen_test t = grind (arith, test_fine, test_end)

    lower_least : int_min fine end ≡ (if lower then fine else end)
    lower_least = let least = near_fine.least in let most = near_fine.most in grind (arith, ints, clamps)

    other_greatest : int_max fine end ≡ (if not lower then fine else end)
    other_greatest = let least = near_fine.least in let most = near_fine.most in grind (arith, ints, clamps)

    more : IsChosen (MorePrecision b) mode exponent n
    unfolding rounded_by to_precision to_fixed
    more = by_choice (MorePrecision b) lower refl refl lower_least (grind (arith, chosen_test))

    less : IsChosen (LessPrecision b) mode exponent n
    unfolding rounded_by to_precision to_fixed
    less = by_choice (LessPrecision b) (not lower) refl refl other_greatest (grind (arith, chosen_test))

-- every precision chooses the rounding at its position
pub chosen : (p : Precision) (mode : UnsignedRoundingMode) (exponent n : ℕ) → n < number_limit
    → IsChosen p mode exponent n
unfolding rounded_by to_precision to_fixed
chosen p mode exponent n few = grind (arith, ints, more, less, multiples_unit)
