-- The integer that the digits of a value write.
use Rattle.std.proofs.{Common.{w16, to_z, of_z, zero, suc, ◌≡◌, ℕ, ◌+◌, ◌-◌, ◌*◌, ◌/◌, ◌%◌, ◌^◌, ◌<◌, ◌≤◌, List, length, get_or, take, drop, refl, sym, ◌∙◌, ap, arith, Ok, Err, ℤ, pos, ◌+ℤ◌, ◌<ℤ◌, Result, All}, Math.Nat.{mul-mod_left, pow-le-pow_right, mul-div_cancel}, lemmas.{Bool.Decides.nat_tests, Int.Digits.number_more as number_more_digits, Int.ints, List.Elements.recursion_from_All, List.{length-take-le, take_all, get_or-drop}, Nat.pow-add}}
use Rattle.std.specs.Int.Digits.{number_from_digits, AllBelowBase}
use Rattle.decimal_digits.proofs.lemmas.{digits.{DigitLists.{ten_pos, below_take, number_back, number-div}, LeadingBytes.{below_sixteen, get_or-padded, hex_pow, sixteen, sixteen_are, sixteen_digits}, Rules.steps}, ops.Offsets.offset_is, rounding.{Ends.no_more_zeros, Leading.{leading_none, leading_more}, NumberAt.{number_at-none, number_at-more, number_at-lt, number_at-ge}}}
use Rattle.decimal_digits.specs.{Digits.{number_of, number_at}, Nibbles.bcd_number, Number.{offset, weight}, Remainders.leading}
use Rattle.decimal_unsigned.proofs.lemmas.decimal.Values.{told, magnitude_kept}
use Rattle.decimal_unsigned.specs.{Stored.IsStored, ToInteger.{in_range, as_integer}, Unsigned.{Unsigned, IsValue}, declared.error.IntegerError.IntegerError, declared.error.IntegerError.TheVariants.{NotWhole, OutOfRange}}

-- ---- the result
-- an integer below the bound is in range
pub in_range-below : (bound n : ℕ) → n < bound → in_range bound n ≡ Ok n
in_range-below bound n h = grind (arith, nat_tests)

-- any other integer is out of range
pub in_range-above : (bound n : ℕ) → bound ≤ n → in_range bound n ≡ Err OutOfRange
in_range-above bound n h = grind (arith, nat_tests)

-- the number of an integer n is converted to n, if n is in range
pub as_integer-whole : (bound number n : ℕ) → number ≡ n * weight (pos 0) → as_integer bound number ≡ in_range bound n
as_integer-whole bound number n e = grind (arith, mul-mod_left, mul-div_cancel, ten_pos)

-- a number with a nonzero fraction is not whole
pub as_integer-part : (bound number : ℕ) → ¬ (number % weight (pos 0) ≡ 0) → as_integer bound number ≡ Err NotWhole
as_integer-part bound number h = grind (arith, nat_tests)

-- ---- the digits that are read
-- one digit more
pub leading_next : (i : ℕ) (ds : List ℕ) → leading (i + 1) ds ≡ leading i ds * 10 + get_or ds i 0
leading_next i ds = grind (steps, leading_more)

-- i digits write a number below 10 ^ i
pub leading_lt : (i : ℕ) (ds : List ℕ) → All (λ d. d < 10) ds → leading i ds < 10 ^ i
leading_lt i ds h = grind (steps, number_at-lt, below_take, recursion_from_All)

-- the first i + j digits are the first i and the j after them
pub leading_split : (i j : ℕ) (ds : List ℕ) → leading (i + j) ds ≡ leading i ds * 10 ^ j + leading j (drop i ds)
leading_split i zero ds =
    let e : i + 0 ≡ i = omega arith in
    rw e (omega (arith, leading_none 0 (drop i ds) refl))
leading_split i (suc j) ds =
    let e : i + suc j ≡ i + j + 1 = omega arith in
    let f : suc j ≡ j + 1 = omega arith in
    rw (e, f)
    (omega (
      arith,
      leading_next (i + j) ds,
      leading_next j (drop i ds),
      leading_split i j ds,
      get_or-drop i ds j 0,
      ap (λ p. leading i ds * p) (pow-add 10 j 1),
    ))

-- the first 39 digits are the first 38 and one more
pub leading_39 : (ds : List ℕ) → leading 39 ds ≡ leading 38 ds * 10 + get_or ds 38 0
leading_39 = leading_next 38

-- and at most `top` digits write a number below 10 ^ top
few_digits : (i top : ℕ) (ds : List ℕ) → All (λ d. d < 10) ds → i ≤ top → leading i ds < 10 ^ top
few_digits i top ds h l = grind (steps, leading_lt, pow-le-pow_right)

-- 37 digits fit 128 bits with one more
pub leading_u128 : (i : ℕ) (ds : List ℕ) → All (λ d. d < 10) ds → i ≤ 37 → leading i ds < 10 ^ 37
leading_u128 i = few_digits i 37

module _ {ds : List ℕ} {m hi lo : ℤ} (t : IsStored ds m hi lo) where
  -- digits that end at magnitude 0 or above write an integer
  pub whole_number : (places : ℕ) → pos 0 +ℤ pos places ≡ m +ℤ pos 1 → length ds ≤ places
      → number_of ds m ≡ leading places ds * weight (pos 0)
  unfolding number_of
  whole_number places at few =
      let k : offset m + 1 ≡ places + offset (pos 0) = omega (arith, ints, offset_is m, offset_is (pos 0)) in
      grind (steps, offset_is, number_at-more, take_all)

  -- digits that end below magnitude 0 write no integer
  pub part_after : 0 < length ds → (m +ℤ pos 1) <ℤ pos (length ds) → ¬ (number_of ds m % weight (pos 0) ≡ 0)
  unfolding number_of number_at
  part_after some below =
      let last : 0 < number_from_digits 10 ds % 10 = rw (number_back ds t.digits some) (t.back some) in
      no_more_zeros (number_from_digits 10 ds) (offset m + 1 - length ds) (offset (pos 0)) last
      (omega (arith, ints, offset_is m, offset_is (pos 0), t.fits, t.lo_covers, t.in_range))

  -- if the first magnitude is not 0, there is a digit
  pub some_digits : ¬ (m ≡ pos 0) → 0 < length ds
  some_digits h = grind arith

-- ---- the result for a value
module _ {ds : List ℕ} {m hi lo : ℤ} {v : Unsigned} (t : IsStored ds m hi lo)
    (view : record { number = number_of ds m; hi = hi; lo = lo } ≡ v) (bound : ℕ) where
  -- the conversion of a number, which is that of a value
  abbrev Answer : Result ℕ IntegerError → Type 0
  Answer r = record { value : r ≡ as_integer bound v.number; valid : IsValue v }

  of_value : {r : Result ℕ IntegerError} → r ≡ as_integer bound (number_of ds m) → Answer r
  of_value = told t view (λ w. as_integer bound w.number)

  module _ {len : ℕ} (size : len ≡ length ds) where
    -- if there are nonzero fraction digits, the result is `NotWhole`
    pub part_result : (to_z w16 (of_z w16 m) +ℤ pos 1) <ℤ pos len → Answer (Err NotWhole)
    part_result below =
        let part : (m +ℤ pos 1) <ℤ pos (length ds) = omega (arith, ints, magnitude_kept t, size, below) in
        let some : 0 < length ds = grind (arith, ints) in
        of_value (sym (as_integer-part bound (number_of ds m) (part_after t some part)))

    module _ {places : ℕ} (count : (pos places ≡ to_z w16 (of_z w16 m) +ℤ pos 1) × (len ≤ places)) where
      at : pos 0 +ℤ pos places ≡ m +ℤ pos 1
      at = omega (arith, ints, magnitude_kept t, count.0)

      few : length ds ≤ places
      few = omega (arith, size, count.1)

      -- otherwise the result is the integer that the digits write, or `OutOfRange`
      pub whole_result : {r : Result ℕ IntegerError} → r ≡ in_range bound (leading places ds) → Answer r
      whole_result e =
          of_value
          (e ∙ sym (as_integer-whole bound (number_of ds m) (leading places ds) (whole_number t places at few)))

      -- at most `top` digits write an integer in range
      pub few_digits_result : (top : ℕ) → All (λ d. d < 10) ds → places ≤ top → 10 ^ top ≤ bound → {n : ℕ}
          → n ≡ leading places ds → Answer (Ok n)
      few_digits_result top digits l h e = grind (arith, whole_result, in_range-below, few_digits)

      -- more digits write an integer out of range
      pub many_digits_result : (top : ℕ) → top < places → 0 < top → bound ≤ 10 ^ top → Answer (Err OutOfRange)
      many_digits_result top l p h =
          grind (arith, some_digits, number_at-ge, pow-le-pow_right, take_all, whole_result, in_range-above)

-- ---- the first sixteen digits, from their packed BCD number
module _ (ds : List ℕ) (h : All (λ d. d < 10) ds) where
  abbrev all : List ℕ
  all = sixteen ds h

  all_hex : AllBelowBase 16 all
  all_hex = below_sixteen all (sixteen_digits ds h)

  -- a right shift keeps the first `count` nibbles
  shifted_front : (count : ℕ) → count ≤ 16
      → bcd_number ds / 2 ^ (4 * (16 - count)) ≡ number_from_digits 16 (take count all)
  unfolding bcd_number
  shifted_front count l = grind (steps, sixteen_are, hex_pow, number-div, all_hex)

  -- the first of them write the number that the first digits write
  front_leading : (i : ℕ) → i ≤ 16 → number_from_digits 10 (take i all) ≡ leading i ds
  front_leading zero l = sym (leading_none 0 ds refl)
  front_leading (suc i) l =
      let k : suc i ≡ i + 1 = omega arith in
      let before = front_leading i (omega arith) in
      ap (λ j. number_from_digits 10 (take j all)) k
      ∙ number_more_digits 10 all i (omega (arith, sixteen_are ds h))
      ∙ (λ j. before j * 10 + get_or-padded 16 ds i (omega arith) j)
      ∙ sym (leading_next i ds)
      ∙ ap (λ j. leading j ds) (sym k)

  -- the shifted nibbles, as decimal digits, write the number of the first `count` digits
  pub few_leading : (count m n : ℕ) → count ≤ 16 → m ≡ bcd_number ds / 2 ^ (4 * (16 - count))
      → ((xs : List ℕ) → AllBelowBase 16 xs → length xs ≤ 16 → m ≡ number_from_digits 16 xs
      → n ≡ number_from_digits 10 xs) → n ≡ leading count ds
  few_leading count m n l e f =
      grind (arith, below_take, all_hex, length-take-le, sixteen_are, shifted_front, front_leading)

  -- seventeen to nineteen digits write the number of the first sixteen and of the others
  pub more_leading : (count front unit rest : ℕ) → 16 ≤ count → count ≤ 19 → front ≡ leading 16 ds
      → unit ≡ 10 ^ (count - 16) → rest ≡ leading (count - 16) (drop 16 ds)
      → (front * unit + rest ≡ leading count ds) × (front * unit + rest < 10 ^ 19)
  more_leading count front unit rest some few e u f =
      let at : 16 + (count - 16) ≡ count = omega arith in
      let split = rw at at (leading_split 16 (count - 16) ds) in
      let same : front * unit + rest ≡ leading count ds = rw (e, u, f) (sym split) in
      (same, rw same (few_digits count 19 ds h few))

-- the lemmas for converting the leading digits to an integer
pub ruleset to_u128 = (leading_next, leading_u128, number_at-none)
