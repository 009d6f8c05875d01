-- A value times a power of ten.
use Rattle.std.proofs.{Common.{◌≡◌, ℕ, ◌+◌, ◌-◌, ◌*◌, ◌/◌, ◌^◌, ◌<◌, ◌≤◌, suc, false, List, length, refl, sym, ◌∙◌, ap, arith, ◌⊎◌, inl, inr, Some, None, ℤ, pos, negsuc, ◌+ℤ◌, ◌≤ℤ◌, ◌<ℤ◌}, Math.Nat.zero-div, lemmas.{Bool.cases_lt, Int.{ints, clamps}, Nat.pow-add}}
use Rattle.std.specs.{Int.{int_max, int_min}, Int.Digits.number_from_digits}
use Rattle.decimal_digits.proofs.lemmas.{digits.Rules.steps, ops.Offsets.offset_is, rounding.Ends.shift_up}
use Rattle.decimal_digits.specs.{Digits.{number_of, number_at}, Number.offset}
use Rattle.decimal_unsigned.proofs.lemmas.decimal.Values.{number_of-none, lowest, stored_as, last_covered}
use Rattle.decimal_unsigned.specs.{Edits.{leaves_limits, times_power, multiplied, multiplied_pow10}, Stored.IsStored, Unsigned.Unsigned}

-- the range of a shifted value
pub record Moves (ds : List ℕ) (m hi lo d m' hi' lo' : ℤ) : Type 0 where
  pub some : 0 < length ds → m' ≡ m +ℤ d
  pub none : length ds ≡ 0 → m' ≡ pos 0
  pub hi_is : hi' ≡ int_max (hi +ℤ d) (pos 0)
  pub lo_is : lo' ≡ int_min (lo +ℤ d) (pos 0)
  pub hi_fits : (hi +ℤ d) ≤ℤ pos 32767
  pub lo_fits : negsuc 32767 ≤ℤ (lo +ℤ d)

module _ {ds : List ℕ} {m hi lo d m' hi' lo' : ℤ} (t : IsStored ds m hi lo) (s : Moves ds m hi lo d m' hi' lo') where
  -- the moved digits are stored as those of a value
  pub moved : IsStored ds m' hi' lo'
  moved =
      stored_as t.digits t.front t.back s.none
      (λ h. (
        omega (arith, ints, clamps, t.hi_covers, s.some h, s.hi_is),
        omega (arith, ints, clamps, last_covered t h, s.some h, s.lo_is),
      ))
      (omega (arith, ints, clamps, s.hi_is), omega (arith, ints, clamps, s.hi_is, s.hi_fits))
      (omega (arith, ints, clamps, s.lo_is, s.lo_fits), omega (arith, ints, clamps, s.lo_is))

number_up : (ds : List ℕ) (m m' : ℤ) (n : ℕ) → length ds ≤ offset m + 1 → offset m' ≡ offset m + n
    → number_of ds m' ≡ number_of ds m * 10 ^ n
unfolding number_of number_at
number_up ds m m' n h e =
    let k : offset m' + 1 - length ds ≡ (offset m + 1 - length ds) + n = omega arith in
    ap (λ x. number_from_digits 10 ds * 10 ^ x) k ∙ (rw pow-add (omega arith))

number_down : (ds : List ℕ) (m m' : ℤ) (n : ℕ) → length ds ≤ offset m' + 1 → offset m' + n ≡ offset m
    → number_of ds m' ≡ number_of ds m / 10 ^ n
unfolding number_of number_at
number_down ds m m' n h e = grind (steps, shift_up)

-- the moved digits are the number times the power
times_is : {ds : List ℕ} {m hi lo m' hi' lo' : ℤ} (d : ℤ) → IsStored ds m hi lo → Moves ds m hi lo d m' hi' lo'
    → number_of ds m' ≡ times_power (number_of ds m) d
times_is {ds} {m} {hi} {lo} {m'} (pos n) t s = elim (cases_lt 0 (length ds)) [
  | inl h ↦ number_up ds m m' n (omega (arith, t.fits)) (omega (arith, ints, s.some h, offset_is, lowest t))
  | inr h ↦
      rw (number_of-none (moved t s) (omega arith), number_of-none t (omega arith)) (omega arith)
]
times_is {ds} {m} {hi} {lo} {m'} (negsuc n) t s = elim (cases_lt 0 (length ds)) [
  | inl h ↦
      let u = moved t s in
      number_down ds m m' (suc n) (omega (arith, u.fits)) (omega (arith, ints, s.some h, offset_is, lowest t, lowest u))
  | inr h ↦ rw (number_of-none (moved t s) (omega arith), number_of-none t (omega arith)) (sym (zero-div _))
]

-- and their value is multiplied
pub multiplied_is : {ds : List ℕ} {m hi lo m' hi' lo' : ℤ} (d : ℤ) → IsStored ds m hi lo
    → Moves ds m hi lo d m' hi' lo'
    → record { number = number_of ds m'; hi = hi'; lo = lo' }
    ≡ multiplied (record { number = number_of ds m; hi = hi; lo = lo }) d
multiplied_is d t s = rw (s.hi_is, s.lo_is, times_is d t s) refl

-- a shifted range within the limits does not leave the limits
pub stays_in : (v : Unsigned) (d : ℤ) → (v.hi +ℤ d) ≤ℤ pos 32767 → negsuc 32767 ≤ℤ (v.lo +ℤ d)
    → leaves_limits v d ≡ false
stays_in v d h l = grind (arith, ints)

-- their value is the shifted value
pub multiplied_pow10_is : {ds : List ℕ} {m hi lo m' hi' lo' : ℤ} (d : ℤ) → IsStored ds m hi lo
    → Moves ds m hi lo d m' hi' lo'
    → multiplied_pow10 (record { number = number_of ds m; hi = hi; lo = lo }) d
    ≡ Some (record { number = number_of ds m'; hi = hi'; lo = lo' })
multiplied_pow10_is {ds} {m} {hi} {lo} d t s =
    let test = stays_in (record { number = number_of ds m; hi = hi; lo = lo }) d s.hi_fits s.lo_fits in
    rw test (ap Some (sym (multiplied_is d t s)))

-- a shift of the range beyond the limits has no result
pub multiplied_pow10_over : {ds : List ℕ} {m hi lo : ℤ} (n : ℕ) (d : ℤ) → IsStored ds m hi lo
    → (pos 32767 <ℤ (hi +ℤ d)) ⊎ ((lo +ℤ d) <ℤ negsuc 32767)
    → multiplied_pow10 (record { number = n; hi = hi; lo = lo }) d ≡ None
multiplied_pow10_over n d t o = grind (arith, ints)
