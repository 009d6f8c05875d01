-- Laws of rounding, on values.
use Rattle.std.proofs.{Common.{◌≡◌, ℕ, ◌-◌, ◌*◌, ◌^◌, ◌<◌, ◌≤◌, sym, subst, arith, Option, Some, ℤ, negsuc, ◌≤ℤ◌, rules, if◌then◌else◌}, lemmas.{Bool.Decides.nat_tests, Int.{ints, clamps}, Nat.pow-add}}
use Rattle.std.specs.Int.{int_max}
use Rattle.decimal_digits.proofs.lemmas.{digits.Rules.steps, ops.Offsets.offset_le, rounding.{Naming.rounded_number_is_named, Remainders.unit_pos, RoundingLaws.{rounded_number-idempotent, rounded_number-zero, rounded_number-finer, rounded_number-monotone, trunc-coarser, expand-coarser, trunc_le, le_expand}}}
use Rattle.decimal_digits.specs.{Number.{offset, first, size}, Rounding.{unit_at, rounded_number, DigitRoundingFails}, declared.rounding.RoundError.RoundError, declared.rounding.RoundError.TheVariants.{Limit, Memory}, declared.rounding.RoundingIncrement.TheVariants.MultiplesOf1, declared.rounding.UnsignedRoundingMode.UnsignedRoundingMode, declared.rounding.UnsignedRoundingMode.TheVariants.{Trunc, Expand}}
use Rattle.decimal_unsigned.proofs.lemmas.{decimal.FirstLast.first_le, laws.ValueLaws.below_limit, shift.Roundings.rounded_to-large}
use Rattle.decimal_unsigned.specs.{Rounded.{rounded, IsRounded, Rounding, unit_of, reaches_limit, RoundingFails}, Unsigned.{Unsigned, IsValue}, ValueLaws.{trunced, after_rounding, TruncationsCompose, ExpansionsCompose, RoundingIsMonotone}}

-- ---- The result of a rounding.

-- the rounding by the remainder is the rounding to the multiple that the mode names
pub is_rounded : (v : Unsigned) (r : Rounding UnsignedRoundingMode) {new : Option Unsigned} → IsValue v
    → rounded v r ≡ new → IsRounded v r new
is_rounded v r valid e = grind (steps, rounded_number_is_named, unit_pos)

-- an error of rounding the digits is an error of rounding the value
pub fails : (held : ℕ) (e : RoundError) (v : Unsigned) (r : Rounding UnsignedRoundingMode) → IsValue v
    → DigitRoundingFails e r.increment (size v.number) (rounded_number r.mode (unit_of r) v.number) held
    → RoundingFails held e v r
fails held Limit v r valid h = search (rules, arith, ints, clamps, nat_tests, is_rounded, rounded_to-large)
fails held Memory v r valid h = h

-- ---- The same rounding again.

-- the same rounding again changes nothing
pub rounding_is_idempotent : (v w : Unsigned) (r : Rounding UnsignedRoundingMode) → rounded v r ≡ Some w
    → rounded w r ≡ Some w
rounding_is_idempotent v w r e = grind (steps, rounded_number-idempotent, unit_pos)

-- ---- Two positions.
coarser : (p q : ℤ) → negsuc 32767 ≤ℤ p → p ≤ℤ q
    → unit_at MultiplesOf1 q ≡ 10 ^ (offset q - offset p) * unit_at MultiplesOf1 p
coarser p q low h =
    let l : offset p ≤ offset q = offset_le p q low (omega (arith, ints)) h in
    let e : 10 ^ offset q ≡ 10 ^ (offset q - offset p) * 10 ^ offset p = grind (arith, pow-add) in
    omega (arith, e)

-- rounding by the coarser unit after the finer one is rounding by the coarser one
abbrev Absorbs : UnsignedRoundingMode → ℕ → Type 0
Absorbs mode n =
    (u t : ℕ) → 0 < u → 0 < t * u
    → rounded_number mode (t * u) (rounded_number mode u n) ≡ rounded_number mode (t * u) n

trunc_absorbs : (n : ℕ) → Absorbs Trunc n
trunc_absorbs n u t = trunc-coarser u t n

expand_absorbs : (n : ℕ) → Absorbs Expand n
expand_absorbs n u t = expand-coarser u t n

module _ (mode : UnsignedRoundingMode) (n : ℕ) (absorbs : Absorbs mode n) where
  -- the number after a rounding at p and then at q
  once : ℤ → ℕ
  once p = rounded_number mode (unit_at MultiplesOf1 p) n

  twice : ℤ → ℤ → ℕ
  twice p q = rounded_number mode (unit_at MultiplesOf1 q) (rounded_number mode (unit_at MultiplesOf1 p) n)

  twice_up : (p q : ℤ) → negsuc 32767 ≤ℤ p → p ≤ℤ q → twice p q ≡ once q
  unfolding once twice
  twice_up p q low h =
      let u = unit_at MultiplesOf1 p in
      let e = coarser p q low h in
      subst (λ k. rounded_number mode k (rounded_number mode u n) ≡ rounded_number mode k n) (sym e)
      (absorbs u (10 ^ (offset q - offset p)) (unit_pos MultiplesOf1 p)
      (subst (λ k. 0 < k) e (unit_pos MultiplesOf1 q)))

  twice_down : (p q : ℤ) → negsuc 32767 ≤ℤ q → q ≤ℤ p → twice p q ≡ once p
  unfolding once twice
  twice_down p q low h =
      let u = unit_at MultiplesOf1 q in
      let e = coarser q p low h in
      subst (λ k. rounded_number mode u (rounded_number mode k n) ≡ rounded_number mode k n) (sym e)
      (rounded_number-finer u (10 ^ (offset p - offset q)) n (unit_pos MultiplesOf1 q)
      (subst (λ k. 0 < k) e (unit_pos MultiplesOf1 p)) mode)

  twice_is : (p q : ℤ) → negsuc 32767 ≤ℤ p → negsuc 32767 ≤ℤ q → twice p q ≡ once (int_max p q)
  twice_is p q low low' = grind (steps, twice_up, once, twice_down)

-- ---- Two expansions.

-- expanding twice is expanding once, at the greater position
pub expansions_compose : (v : Unsigned) (p : ℤ) → negsuc 32767 ≤ℤ p → ExpansionsCompose v p
unfolding once twice
expansions_compose v p low q low' =
    let n = rounded_number Expand (unit_at MultiplesOf1 p) v.number in
    let far = rounded_number Expand (unit_at MultiplesOf1 (int_max p q)) v.number in
    let same : rounded_number Expand (unit_at MultiplesOf1 q) n ≡ far =
    twice_is Expand v.number (expand_absorbs v.number) p q low low' in
    let more = le_expand (unit_at MultiplesOf1 q) n (unit_pos MultiplesOf1 q) in
    grind (arith, nat_tests)

-- ---- Two truncations.
module _ (v : Unsigned) (p : ℤ) (low : negsuc 32767 ≤ℤ p) (valid : IsValue v) where
  -- the number that truncating left
  abbrev left : ℕ
  left = rounded_number Trunc (unit_at MultiplesOf1 p) v.number

  less : (q : ℤ) → rounded_number Trunc (unit_at MultiplesOf1 q) v.number ≤ v.number
  less q = trunc_le (unit_at MultiplesOf1 q) v.number (unit_pos MultiplesOf1 q)

  truncated_above : (q : ℤ) → p ≤ℤ q → trunced (trunced v p) q ≡ trunced v q
  unfolding once twice
  truncated_above q h =
      let same : rounded_number Trunc (unit_at MultiplesOf1 q) left
      ≡ rounded_number Trunc (unit_at MultiplesOf1 q) v.number =
      twice_up Trunc v.number (trunc_absorbs v.number) p q low h in
      let f : first left ≤ℤ v.hi =
      first_le left v.hi (omega (arith, less p, valid.below)) valid.hi_in.0 valid.hi_in.1 in
      let below = below_limit v p valid in
      let again = less q in
      grind (arith, ints, clamps, nat_tests)

  truncated_number : (q : ℤ) → negsuc 32767 ≤ℤ q
      → (trunced (trunced v p) q).number ≡ (trunced v (int_max p q)).number
  unfolding once twice
  truncated_number q low' =
      let same : rounded_number Trunc (unit_at MultiplesOf1 q) left
      ≡ rounded_number Trunc (unit_at MultiplesOf1 (int_max p q)) v.number =
      twice_is Trunc v.number (trunc_absorbs v.number) p q low low' in
      let below = below_limit v p valid in
      let again = less (int_max p q) in
      grind (arith, nat_tests)

  -- truncating twice is truncating once, at the greater position
  pub truncations_compose : TruncationsCompose v p (trunced v p)
  truncations_compose = record { above = truncated_above; number = truncated_number }

-- ---- Order.

-- the number after a rounding: the multiple, or the old number if the multiple reaches the limit
abbrev pub new_number : UnsignedRoundingMode → ℕ → ℕ → ℕ
new_number mode u n = if reaches_limit (rounded_number mode u n) then n else rounded_number mode u n

-- it is the number of the value after a rounding
pub number-after_rounding : (v : Unsigned) (r : Rounding UnsignedRoundingMode)
    → (after_rounding v r).number ≡ new_number r.mode (unit_of r) v.number
number-after_rounding v r = grind (arith, nat_tests)

module _ (mode : UnsignedRoundingMode) (u : ℕ) (pos_u : 0 < u) where
  -- 0 stays 0
  pub new_number-zero : new_number mode u 0 ≡ 0
  new_number-zero = let z = rounded_number-zero mode u pos_u in grind (arith, nat_tests)

  -- a greater number results in no less: one below the lesser number's multiple is rounded to at most that multiple,
  -- and so succeeds if the rounding to that multiple does
  pub new_number-monotone : (n m : ℕ) → n ≤ m → new_number mode u n ≤ new_number mode u m
  new_number-monotone n m l =
      let up = rounded_number-monotone mode u n m pos_u l in
      let back : m ≤ rounded_number mode u n → rounded_number mode u m ≤ rounded_number mode u n =
      λ h. omega (
        arith,
        rounded_number-idempotent mode u n pos_u,
        rounded_number-monotone mode u m (rounded_number mode u n) pos_u h,
      ) in
      grind (arith, nat_tests)

-- rounding is monotone: the value after rounding a greater number is no less
pub rounding_is_monotone : (v w : Unsigned) (r : Rounding UnsignedRoundingMode) → RoundingIsMonotone v w r
rounding_is_monotone v w r l = search (rules, arith, number-after_rounding, new_number-monotone, unit_pos)
