-- What the digits of a value say of its number, and which digits are stored.
use Rattle.std.proofs.{Common.{◌≡◌, ℕ, ◌+◌, ◌-◌, ◌*◌, ◌^◌, ◌<◌, ◌≤◌, List, [], length, ◌∙◌, ap, arith, w16, to_z, of_z, ℤ, pos, negsuc, ◌+ℤ◌, ◌-ℤ◌, ◌≤ℤ◌, ◌<ℤ◌, ◌%◌, subst, sym, w32, slice_index}, Math.Nat.{mul-le-mul_right, mul-lt-mul_of_pos_right, pow-le-pow_right, mul-mod_left}, lemmas.{Bool.Decides.nat_tests, Int.Digits.number_lt, Int.{ints, to_z-of_z}, Nat.pow-add}}
use Rattle.std.specs.{Int.int_gap, Int.Digits.{number_from_digits, AllBelowBase}}
use Rattle.decimal_digits.proofs.lemmas.{digits.{DigitLists.{ten_pos, number_back, number_front, number-digit}, Rules.steps}, ops.Offsets.{offset_is, gap_is, magnitude_at-offset}, rounding.Ends.{first_is, first_zero, no_more_zeros, last_is, last_zero, digit_above, digit_below, shift_down}}
use Rattle.decimal_digits.specs.{Digits.{number_of, number_at}, Number.{offset, digit, first, last, size, IsLast, IsFirst}}
use Rattle.decimal_unsigned.specs.{Stored.IsStored, Unsigned.{Unsigned, IsValue}}
use lib.Signed.{mag}

-- the offset of the last digit
abbrev ends : List ℕ → ℤ → ℕ
ends ds m = offset m + 1 - length ds

module _ {ds : List ℕ} {m hi lo : ℤ} (t : IsStored ds m hi lo) where
  -- a 1 above the first digit is more than the number
  pub number_of-lt : number_of ds m < 10 ^ (offset m + 1)
  unfolding number_of number_at
  number_of-lt = grind (arith, number_lt, mul-lt-mul_of_pos_right, ten_pos, pow-add)

  -- a 1 at the first digit is at most the number
  pub number_of-ge : 0 < length ds → 10 ^ offset m ≤ number_of ds m
  unfolding number_of number_at
  number_of-ge h =
      let n : 10 ^ (length ds - 1) ≤ number_from_digits 10 ds = number_front ds h (t.front h) in
      let above : 10 ^ (length ds - 1) * 10 ^ ends ds m ≤ number_from_digits 10 ds * 10 ^ ends ds m =
      mul-le-mul_right (10 ^ ends ds m) n in
      let split : 10 ^ offset m ≡ 10 ^ (length ds - 1) * 10 ^ ends ds m =
      ap (λ n. 10 ^ n) (let k : offset m ≡ length ds - 1 + ends ds m = omega (arith, t.fits) in k)
      ∙ pow-add 10 (length ds - 1) (ends ds m) in
      rw split above

  -- a number with digits is not 0
  pub number_of-pos : 0 < length ds → 0 < number_of ds m
  number_of-pos h = omega (arith, number_of-ge h, ten_pos (offset m))

  -- a number without digits is 0
  pub number_of-none : length ds ≡ 0 → number_of ds m ≡ 0
  unfolding number_of number_at
  number_of-none h = grind (steps, number_lt)

  -- the first digit is at -32768 or above
  pub lowest : negsuc 32767 ≤ℤ m
  lowest = omega (arith, ints, t.lo_covers, t.in_range)

  -- and below 32768
  pub high : offset m < 65536
  high = omega (arith, ints, t.hi_covers, t.in_range, offset_is m, lowest)

  -- the first digit is that of the number
  pub first-number_of : 0 < length ds → first (number_of ds m) ≡ m
  first-number_of h = first_is _ (offset m) (number_of-ge h) number_of-lt high ∙ magnitude_at-offset m lowest

  -- the last digit is that of the number
  pub last-number_of : 0 < length ds → last (number_of ds m) ≡ m -ℤ pos (length ds - 1)
  unfolding number_of number_at
  last-number_of h = grind (steps, number_back, offset_is, lowest, last_is, high)

  -- above the first digit there are zeros
  pub digit-number_of-above : (q : ℤ) → m <ℤ q → negsuc 32767 ≤ℤ q → digit (number_of ds m) q ≡ 0
  digit-number_of-above q h l = grind (arith, digit_above, number_of-lt, offset_is, lowest)

  -- the digits of the list are those of the number
  pub digit-number_of-in : (q : ℤ) (i : ℕ) → q +ℤ pos i ≡ m → negsuc 32767 ≤ℤ q → i < length ds
      → digit (number_of ds m) q ≡ slice_index ds i
  unfolding number_of number_at
  digit-number_of-in q i e l h =
      let p : offset q + i ≡ offset m = omega (arith, ints, offset_is m, offset_is q, lowest) in
      let k : offset q - ends ds m ≡ length ds - (i + 1) = omega (arith, t.fits) in
      grind (steps, offset_is, lowest, shift_down, number-digit)

  -- below the last digit there are zeros
  pub digit-number_of-below : (q : ℤ) (i : ℕ) → q +ℤ pos i ≡ m → negsuc 32767 ≤ℤ q → length ds ≤ i
      → digit (number_of ds m) q ≡ 0
  unfolding number_of number_at
  digit-number_of-below q i e l h = grind (steps, digit_below, offset_is, lowest)

  -- the magnitude of the first digit, of 0 too
  pub first_of : first (number_of ds m) ≡ m
  first_of = grind (steps, first-number_of, number_of-none, first_zero)

  -- the last digit of 0 is that at 0
  pub last_of_none : length ds ≡ 0 → last (number_of ds m) ≡ pos 0
  last_of_none z = ap last (number_of-none z) ∙ last_zero

  -- the number 0 has no digits
  pub none_of : number_of ds m ≡ 0 → length ds ≡ 0
  none_of e = grind (arith, number_of-pos)

  -- and another number has some
  pub some_of : 0 < number_of ds m → 0 < length ds
  some_of p = grind (arith, number_of-none)

-- no digits write the number 0
pub number_of_empty : (m : ℤ) → number_of [] m ≡ 0
unfolding number_of number_at
number_of_empty m = omega arith

module _ {ds : List ℕ} {m hi lo : ℤ} (t : IsStored ds m hi lo) where
  -- 16 bits keep the highest magnitude
  pub hi_kept : to_z w16 (of_z w16 hi) ≡ hi
  hi_kept = omega (arith, ints, t.hi_in, t.in_range)

  -- and the lowest
  pub lo_kept : to_z w16 (of_z w16 lo) ≡ lo
  lo_kept = omega (arith, ints, t.lo_in, t.in_range)

  -- and that of the first digit
  pub magnitude_kept : to_z w16 (of_z w16 m) ≡ m
  magnitude_kept = omega (arith, ints, t.hi_covers, t.lo_covers, t.in_range)

-- an integer that fits 16 bits is unchanged by the conversion to 16 bits and back
pub narrow_kept : {z : ℤ} → mag z < 32768 → to_z w16 (of_z w16 z) ≡ z
narrow_kept {z} h = to_z-of_z w16 z (record { sfits = h })

-- the same for 32 bits
pub wide_kept : {z : ℤ} → mag z < 2147483648 → to_z w32 (of_z w32 z) ≡ z
wide_kept {z} h = to_z-of_z w32 z (record { sfits = h })

-- the number of magnitudes of a range, by its ends after the conversion to 16 bits and back
pub counted : {l h lo hi : ℤ} {n : ℕ} → n ≡ int_gap (to_z w16 (of_z w16 l)) (to_z w16 (of_z w16 h)) + 1 → l ≡ lo
    → h ≡ hi → mag l < 32768 → mag h < 32768
    → n ≡ int_gap lo hi + 1
counted e p q a b = e ∙ (λ i. int_gap ((narrow_kept a ∙ p) i) ((narrow_kept b ∙ q) i) + 1)

-- digits without leading and trailing zeros are stored in a range that includes them
pub stored_as : {ds : List ℕ} {m hi lo : ℤ} → AllBelowBase 10 ds → (0 < length ds → 0 < slice_index ds 0)
    → (0 < length ds → 0 < slice_index ds (length ds - 1)) → (length ds ≡ 0 → m ≡ pos 0)
    → (0 < length ds → (m ≤ℤ hi) × (lo ≤ℤ (m -ℤ pos (length ds - 1)))) → (pos 0 ≤ℤ hi) × (hi ≤ℤ pos 32767)
    → (negsuc 32767 ≤ℤ lo) × (lo ≤ℤ pos 0)
    → IsStored ds m hi lo
stored_as digits front back empty shown up down = grind (arith, ints, offset_is)

module _ {ds : List ℕ} {m hi lo : ℤ} (t : IsStored ds m hi lo) where
  -- the range shows the last digit
  pub last_covered : 0 < length ds → lo ≤ℤ (m -ℤ pos (length ds - 1))
  last_covered h = omega (arith, ints, h, t.fits, t.in_range, lowest t, offset_is m, offset_is lo)

  -- the digits are stored with another upper end at or above the first digit
  pub upper_stored : (up : ℤ) → first (number_of ds m) ≤ℤ up → pos 0 ≤ℤ up → up ≤ℤ pos 32767 → IsStored ds m up lo
  upper_stored up l z b = grind (arith, ints, first_of t)

  -- the digits are stored with another lower end at or below the last digit
  pub lower_stored : (low : ℤ) → low ≤ℤ pos 0 → low ≤ℤ last (number_of ds m) → negsuc 32767 ≤ℤ low
      → IsStored ds m hi low
  lower_stored low z l b = grind (arith, ints, offset_is, last-number_of t)

  -- the last digit is at -32768 or above
  pub last_in : negsuc 32767 ≤ℤ last (number_of ds m)
  last_in = grind (arith, ints, offset_is, last-number_of t, last_of_none t)

-- the size of the number is the length of the list
pub size-number_of : {ds : List ℕ} {m hi lo : ℤ} (t : IsStored ds m hi lo) → size (number_of ds m) ≡ length ds
size-number_of t =
    grind (arith, ints, nat_tests, gap_is, number_of-pos t, last-number_of t, first_of t, number_of-none t)

-- ---- The stored values are those whose digits are all in their range.
-- stored digits are a value
pub value_of_stored : {ds : List ℕ} {m hi lo : ℤ} → IsStored ds m hi lo
    → IsValue (record { number = number_of ds m; hi = hi; lo = lo })
unfolding number_of number_at
value_of_stored {ds} {m} {hi} {lo} t = record {
  hi_in = (t.hi_in, t.in_range.1);
  lo_in = (t.in_range.0, t.lo_in);
  below =
      let p : 10 ^ (offset m + 1) ≤ 10 ^ (offset hi + 1) = grind (arith, pow-le-pow_right, offset_is, lowest) in
      omega (arith, number_of-lt t);
  whole =
      let k : offset m + 1 - length ds ≡ (offset m + 1 - length ds - offset lo) + offset lo = omega (arith, t.fits) in
      let e : number_from_digits 10 ds * 10 ^ (offset m + 1 - length ds)
      ≡ (number_from_digits 10 ds * 10 ^ (offset m + 1 - length ds - offset lo)) * 10 ^ offset lo =
      ap (λ x. number_from_digits 10 ds * 10 ^ x) k ∙ (rw pow-add (omega arith)) in
      ap (λ x. x % 10 ^ offset lo) e
      ∙ mul-mod_left (number_from_digits 10 ds * 10 ^ (offset m + 1 - length ds - offset lo)) (10 ^ offset lo);
}

-- and so is the value that a contract has of them
pub value_of_view : {ds : List ℕ} {m hi lo : ℤ} {v : Unsigned} → IsStored ds m hi lo
    → record { number = number_of ds m; hi = hi; lo = lo } ≡ v
    → IsValue v
value_of_view t e = subst IsValue e (value_of_stored t)

-- a function's result on the stored fields is its result on the value
pub told : {ds : List ℕ} {m hi lo : ℤ} {v : Unsigned} → IsStored ds m hi lo
    → record { number = number_of ds m; hi = hi; lo = lo } ≡ v → {A : Type 0} (f : Unsigned → A) {r : A}
    → r ≡ f (record { number = number_of ds m; hi = hi; lo = lo })
    → record { value : r ≡ f v; valid : IsValue v }
told t view f e = record { value = e ∙ ap f view; valid = value_of_view t view }

-- ---- The first and the last digit of a value, and the ranges that show them.
module _ {ds : List ℕ} {m hi lo : ℤ} (t : IsStored ds m hi lo) where
  -- the stored magnitude is that of the first digit
  pub is_first : IsFirst (number_of ds m) m
  is_first = record {
    reaches = λ p. number_of-ge t (some_of t p);
    less = λ p. number_of-lt t;
    none = λ z. t.empty (none_of t z);
  }

  -- the last digit of the list is the last one of the number
  pub is_last : IsLast (number_of ds m) (last (number_of ds m))
  unfolding number_of number_at
  is_last = record {
    divides = λ p.
        subst (λ k. number_of ds m % 10 ^ k ≡ 0) (sym (ends_at (some_of t p)))
        (mul-mod_left (number_from_digits 10 ds) (10 ^ (offset m + 1 - length ds)));
    highest = grind (steps, some_of, number_back, no_more_zeros, ends_at);
    none = λ z. last_of_none t (none_of t z);
  }
    where
      ends_at : 0 < length ds → offset (last (number_of ds m)) ≡ offset m + 1 - length ds
      ends_at h =
          let e = last-number_of t h in
          omega (arith, ints, e, t.fits, last_in t, lowest t, offset_is m, offset_is (last (number_of ds m)))

  module _ {v : Unsigned} (view : record { number = number_of ds m; hi = hi; lo = lo } ≡ v) {r : ℤ} where
    -- the stored magnitude is that of the first digit of the value
    pub first_told : r ≡ m
        → record { value : r ≡ first v.number; defined : IsFirst v.number r; valid : IsValue v }
    first_told e = record {
      value = e ∙ sym (first_of t) ∙ (λ i. first (view i).number);
      defined = subst (λ (v : Unsigned). IsFirst v.number r) view (rw e is_first);
      valid = value_of_view t view;
    }

    -- and the computed one that of the last digit
    pub last_told : r ≡ last (number_of ds m)
        → record { value : r ≡ last v.number; defined : IsLast v.number r; valid : IsValue v }
    last_told e = record {
      value = e ∙ (λ i. last (view i).number);
      defined = subst (λ (v : Unsigned). IsLast v.number r) view (rw e is_last);
      valid = value_of_view t view;
    }
