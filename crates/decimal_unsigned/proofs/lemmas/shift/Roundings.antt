-- Roundings: the values of the fields afterwards, and when each multiple that a mode names is below the limit.
use Rattle.std.proofs.{Common.{◌≡◌, ℕ, ◌<◌, ◌≤◌, List, length, sym, ◌∙◌, ap, arith, Option, Some, None, Result, ℤ, pos, negsuc, ◌-ℤ◌, ◌≤ℤ◌, ◌+◌, ◌-◌, ◌*◌, ◌^◌, refl, inl, inr, ◌+ℤ◌, ◌<ℤ◌, rules, IsOk, IsErrOf}, Math.Nat.{pow-le-pow_right, mul-le-mul_right}, lemmas.{Bool.Decides.nat_tests, Bool.cases_lt, Int.{ints, clamps}, Nat.pow-add, Option.none-some}}
use Rattle.std.specs.{Int.{int_max, int_min}, Int.Digits.AllBelowBase, Result.is_ok}
use Rattle.decimal_digits.proofs.lemmas.{digits.{DigitLists.ten_pos, Rules.steps}, ops.Offsets.offset_is, rounding.{Ends.first_zero, NumberAt.number_of-none, Remainders.unit_pos, RoundingLaws.{trunc_le, rounded_number-multiple, rounded_number-monotone}}}
use Rattle.decimal_digits.specs.{Digits.number_of, Number.{first, size, number_limit, offset, weight}, RoundedDigits.{Represents, NoDigitsBelow}, Rounding.{unit_at, rounded_number}, declared.rounding.RoundError.RoundError, declared.rounding.RoundError.TheVariants.Limit, declared.rounding.RoundingIncrement.RoundingIncrement, declared.rounding.RoundingIncrement.TheVariants.{MultiplesOf1, MultiplesOf2, MultiplesOf5, MultiplesOf25}, declared.rounding.UnsignedRoundingMode.UnsignedRoundingMode, declared.rounding.UnsignedRoundingMode.TheVariants.Trunc}
use Rattle.decimal_unsigned.proofs.lemmas.decimal.Values.{size-number_of, stored_as}
use Rattle.decimal_unsigned.specs.{Rounded.{rounded, IsRounded, with_number, rounding, rounding_by_1, rounded_to, UpdatesInPlace, RoundsInPlace, Rounding, IsBelowLimit, HasCapacity, RoundingNeedsMemory}, Stored.IsStored, Unsigned.{Unsigned, IsValue}}

-- a rounding to a multiple below the limit results in the value of that multiple
pub rounded_to-small : (v : Unsigned) (p : ℤ) (n : ℕ) → n < number_limit → rounded_to v p n ≡ Some (with_number v p n)
rounded_to-small v p n h = grind (arith, nat_tests)

-- and a rounding to a greater multiple has no result
pub rounded_to-large : (v : Unsigned) (p : ℤ) (n : ℕ) → number_limit ≤ n → rounded_to v p n ≡ None
rounded_to-large v p n h = grind (arith, nat_tests)

-- a number below the limit is rounded toward zero to a value
pub trunc_makes : (v : Unsigned) (p : ℤ) (increment : RoundingIncrement) → v.number < number_limit
    → rounded v (rounding p Trunc increment)
    ≡ Some (with_number v p (rounded_number Trunc (unit_at increment p) v.number))
trunc_makes v p increment h = grind (steps, unit_pos, trunc_le)

-- a result without a reason to fail is Ok
pub ok_unless_none : {A E V : Type 0} (makes : Option V → Type 0) (old new : V) (r : Result A E)
    → UpdatesInPlace makes old new r → (makes None → ⊥)
    → IsOk r
ok_unless_none makes old new r a never = grind arith

-- a rounding by 1 fails only for the limit
pub updates_by_1 : {A B E : Type 0} (held : ℕ) (v : Unsigned) (p : ℤ) (mode : UnsignedRoundingMode) (new : Unsigned)
    (r : Result A RoundError) (s : Result B E) → is_ok s ≡ is_ok r
    → RoundsInPlace held v (rounding_by_1 p mode) new r
    → UpdatesInPlace (IsRounded v (rounding_by_1 p mode)) v new s
updates_by_1 held v p mode new x5 x6 e a = grind (arith, ints, clamps, nat_tests)

-- if no digits represent a number, it is 0 and its magnitude is 0
unspelled : {ds : List ℕ} {m : ℤ} {n : ℕ} → Represents ds m n → length ds ≡ 0 → m ≡ pos 0
unspelled {ds} {m} s z = sym s.magnitude_is ∙ ap first (sym s.number ∙ number_of-none ds m z) ∙ first_zero

module _ {ds : List ℕ} {m : ℤ} {n : ℕ} (s : Represents ds m n) (p hi : ℤ) {m' hi' lo' : ℤ} (f : m' ≡ m)
    (h : hi' ≡ int_max (int_max hi (p -ℤ pos 1)) m) (o : lo' ≡ int_min p (pos 0)) where
  -- the remaining digits are stored as those of a value
  pub stored_left : NoDigitsBelow p ds m → AllBelowBase 10 ds → pos 0 ≤ℤ hi → hi ≤ℤ pos 32767 → negsuc 32767 ≤ℤ p
      → p ≤ℤ pos 32767
      → IsStored ds m' hi' lo'
  stored_left above b z g l t = search (rules, arith, ints, clamps, stored_as, unspelled, offset_is)

  -- their value is the rounded value
  pub rounded_left : (v : Unsigned) → v.hi ≡ hi
      → rounded_to v p n ≡ Some (record { number = number_of ds m'; hi = hi'; lo = lo' })
  rounded_left v e = grind (steps, rounded_to-small)

-- a value's list and magnitude, as they are read again, give the number and its size
pub number_of-stored : {ds es : List ℕ} {m k hi lo : ℤ} {v : Unsigned} → IsStored ds m hi lo
    → record { number = number_of ds m; hi = hi; lo = lo } ≡ v → es ≡ ds → k ≡ m
    → number_of es k ≡ v.number
number_of-stored {ds} {es} {m} {k} t e l n = (λ i. number_of (l i) (n i)) ∙ ap (λ (v : Unsigned). v.number) e

-- the size of the number is the length of the list
pub length-stored : {ds es : List ℕ} {m hi lo : ℤ} {v : Unsigned} → IsStored ds m hi lo
    → record { number = number_of ds m; hi = hi; lo = lo } ≡ v → es ≡ ds
    → length es ≡ size v.number
length-stored t e l = ap length l ∙ sym (size-number_of t) ∙ ap (λ (v : Unsigned). size v.number) e

-- ---- Numbers.

-- a number up to a multiple of the unit is rounded to no more than that multiple
up_to : (mode : UnsignedRoundingMode) (u n k : ℕ) → 0 < u → n ≤ k * u → rounded_number mode u n ≤ k * u
up_to mode u n k p h = omega (arith, rounded_number-monotone mode u n (k * u) p h, rounded_number-multiple mode u k p)

-- s divides a power of ten and has its d + 1 digits; the unit is s with p zeros, and the number n has at most h + 1
-- digits
module _ (mode : UnsignedRoundingMode) (n s t d p h : ℕ) (whole : s * t ≡ 10 ^ (d + 1)) (low : 10 ^ d ≤ s)
    (high : s + 1 ≤ 10 ^ (d + 1)) (some : 0 < s * 10 ^ p) (few : n < 10 ^ (h + 1)) where
  -- a number below the unit is rounded to the unit at most
  below_unit : h < p + d → rounded_number mode (s * 10 ^ p) n < 10 ^ (p + (d + 1))
  below_unit l =
      let a : 10 ^ (h + 1) ≤ 10 ^ (p + d) = pow-le-pow_right (omega arith) (omega arith) in
      let b : 10 ^ (p + d) ≡ 10 ^ p * 10 ^ d = pow-add 10 p d in
      let c : 10 ^ d * 10 ^ p ≤ s * 10 ^ p = mul-le-mul_right (10 ^ p) low in
      let m : n ≤ 1 * (s * 10 ^ p) = omega (arith, a, b, c, few) in
      let e : 10 ^ (p + (d + 1)) ≡ 10 ^ p * 10 ^ (d + 1) = pow-add 10 p (d + 1) in
      let f : (s + 1) * 10 ^ p ≤ 10 ^ (d + 1) * 10 ^ p = mul-le-mul_right (10 ^ p) high in
      omega (arith, up_to mode (s * 10 ^ p) n 1 some m, e, f, ten_pos p)

  -- and a greater one to the next power of ten at most
  above_unit : p + d ≤ h → rounded_number mode (s * 10 ^ p) n ≤ 10 ^ (h + 1)
  above_unit l =
      let k : h + 1 ≡ (h - (p + d)) + ((d + 1) + p) = omega arith in
      let a : 10 ^ (h + 1) ≡ 10 ^ (h - (p + d)) * (10 ^ (d + 1) * 10 ^ p) = grind (arith, pow-add) in
      let b : (10 ^ (h - (p + d)) * t) * (s * 10 ^ p) ≡ 10 ^ (h - (p + d)) * (10 ^ (d + 1) * 10 ^ p) =
      (omega arith) ∙ ap (λ x. 10 ^ (h - (p + d)) * (x * 10 ^ p)) whole in
      omega (arith, up_to mode (s * 10 ^ p) n (10 ^ (h - (p + d)) * t) some (omega (arith, a, b, few)), a, b)

-- ---- Values.
module _ (v : Unsigned) (q : ℤ) (least : negsuc 32767 ≤ℤ q) (greatest : q ≤ℤ pos 32767) (mode : UnsignedRoundingMode)
    (valid : IsValue v) where
  -- by s, which has d + 1 digits and divides a power of ten
  below_by : (s t d : ℕ) → s * t ≡ 10 ^ (d + 1) → 10 ^ d ≤ s → s + 1 ≤ 10 ^ (d + 1) → 0 < s * weight q
      → v.hi <ℤ pos 32767 → (q +ℤ pos d) ≤ℤ pos 32767
      → rounded_number mode (s * weight q) v.number < number_limit
  below_by s t d whole low high some room up = elim (cases_lt (offset v.hi) (offset q + d)) [
    | inl h ↦
        let top : 10 ^ (offset q + (d + 1)) ≤ number_limit =
        pow-le-pow_right (omega arith) (omega (arith, ints, offset_is q, offset_is (pos 32768))) in
        omega (arith, below_unit mode v.number s t d (offset q) (offset v.hi) whole low high some valid.below h, top)
    | inr h ↦
        let top : 10 ^ (offset v.hi + 1 + 1) ≤ number_limit =
        pow-le-pow_right (omega arith) (omega (arith, ints, offset_is v.hi, offset_is (pos 32768), valid.hi_in)) in
        let ten : 10 ^ (offset v.hi + 1 + 1) ≡ 10 ^ (offset v.hi + 1) * 10 = pow-add 10 (offset v.hi + 1) 1 in
        grind (arith, ints, clamps, nat_tests, above_unit, ten_pos)
  ]

  -- under `IsBelowLimit` each multiple is below the limit
  pub below_limit : (increment : RoundingIncrement) → IsBelowLimit v q increment
      → rounded_number mode (unit_at increment q) v.number < number_limit
  below_limit MultiplesOf1 room =
      below_by 1 10 0 refl (omega arith) (omega arith) (unit_pos MultiplesOf1 q) room (omega (arith, ints))
  below_limit MultiplesOf2 room =
      below_by 2 5 0 refl (omega arith) (omega arith) (unit_pos MultiplesOf2 q) room (omega (arith, ints))
  below_limit MultiplesOf5 room =
      below_by 5 2 0 refl (omega arith) (omega arith) (unit_pos MultiplesOf5 q) room (omega (arith, ints))
  below_limit MultiplesOf25 room =
      below_by 25 4 1 refl (omega arith) (omega arith) (unit_pos MultiplesOf25 q) room.0 (omega (arith, ints, room.1))

-- ---- Results.

-- if the store has the capacity for one more digit, no allocation is needed
no_memory : (held : ℕ) (v : Unsigned) (r : Rounding UnsignedRoundingMode) → RoundingNeedsMemory held v r
    → HasCapacity held v r.increment → ⊥
no_memory held v r needs more = grind arith

module _ (held : ℕ) (v : Unsigned) (r : Rounding UnsignedRoundingMode) (least : negsuc 32767 ≤ℤ r.position)
    (greatest : r.position ≤ℤ pos 32767) where
  -- under `IsBelowLimit` a rounding has a result
  pub rounding_is_some : IsBelowLimit v r.position r.increment → IsRounded v r None → ⊥
  rounding_is_some room none = grind (steps, none-some, rounded_to-small, below_limit)

  -- and it does not fail with `Limit`
  pub not_limit_error : {A : Type 0} (new : Unsigned) (answer : Result A RoundError)
      → RoundsInPlace held v r new answer → IsBelowLimit v r.position r.increment
      → IsErrOf answer Limit → ⊥
  not_limit_error new x1 rounds room e = grind (arith, ints, clamps, nat_tests, rounding_is_some)

  -- nor with `Memory`, if the store has the capacity for one more digit
  pub rounding_is_ok : {A : Type 0} (new : Unsigned) (answer : Result A RoundError)
      → RoundsInPlace held v r new answer → IsBelowLimit v r.position r.increment
      → HasCapacity held v r.increment → IsOk answer
  rounding_is_ok new x1 rounds room more = grind (arith, ints, clamps, nat_tests, rounding_is_some, no_memory)
