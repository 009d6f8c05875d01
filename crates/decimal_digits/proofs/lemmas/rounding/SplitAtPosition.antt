-- A number split at a position into quotient and remainder, and the number after rounding.
use Rattle.std.proofs.{Common.{◌≡◌, ℕ, ◌+◌, ◌-◌, ◌*◌, ◌^◌, ◌<◌, ◌≤◌, List, length, get_or, drop, refl, ◌∙◌, ap, arith, ℤ, pos, negsuc, ◌≤ℤ◌, ◌+ℤ◌, ◌<ℤ◌}, Math.Nat.{mul-pos, pow-le-pow_right, mul-lt-mul_of_pos_right, mul-le-mul_right}, lemmas.Int.ints}
use Rattle.std.specs.Int.Digits.{AllBelowBase}
use Rattle.decimal_digits.proofs.lemmas.{digits.{DigitLists.ten_pos, Rules.steps}, ops.Offsets.{offset_is, magnitude_at-offset, gap_is}, rounding.{Ends.{first_is, last_is, first_zero}, Leading.{leading_none, leading_all, split_at, tail_told}, NumberAt.{powers, number_at-none, number_at-more, number_at-lt, number_at-ge, number_at-pos}}}
use Rattle.decimal_digits.specs.{Digits.{number_at, number_of, IsStripped}, Number.{offset, weight, first, size, magnitude_at, number_limit}, Remainders.{leading, RemainderByDigit, HasDigits, RoundsTo, SplitsAs, RoundLeadingFails}, RoundedDigits.Represents, Rounding.{step_of, unit_at, rounded_number, DigitRoundingFails}, declared.rounding.RoundError.RoundError, declared.rounding.RoundError.TheVariants.{Limit, Memory}, declared.rounding.RoundingIncrement.RoundingIncrement, declared.rounding.UnsignedRoundingMode.UnsignedRoundingMode, declared.rounding.remainder.Remainder.Remainder, declared.rounding.remainder.Remainder.TheVariants.BelowHalf}

-- ---- before the rounding
-- a position at or below the first digit: the k leading digits are the quotient
pub splits_above : (m p : ℤ) (k : ℕ) (remainder : Remainder) (ds : List ℕ) → negsuc 32767 ≤ℤ m → negsuc 32767 ≤ℤ p
    → AllBelowBase 10 ds → 0 < get_or ds (length ds - 1) 0
    → length ds ≤ offset m + 1 → (p +ℤ pos k) ≡ (m +ℤ pos 1) → RemainderByDigit remainder k ds
    → SplitsAs (number_of ds m) (weight p) (leading k ds) remainder
unfolding number_of
splits_above m p k remainder ds low low' b back fits at tells =
    let top = offset m + 1 in
    let e : top - k ≡ offset p = omega (arith, ints, offset_is m, offset_is p) in
    let split = split_at top k ds fits (omega (arith, ints, offset_is m, offset_is p)) in
    (number_at (offset p) (drop k ds), rw e at split, rw e at (tail_told remainder top k ds b back tells fits))

-- a position more than one above the first digit: the quotient is 0 and the remainder below half
pub splits_below : (m p : ℤ) (ds : List ℕ) → negsuc 32767 ≤ℤ m → AllBelowBase 10 ds → 0 < length ds
    → 0 < get_or ds (length ds - 1) 0 → length ds ≤ offset m + 1 → (m +ℤ pos 1) <ℤ p
    → SplitsAs (number_of ds m) (weight p) (leading 0 ds) BelowHalf
unfolding number_of
splits_below m p ds low b some back fits above =
    let top = offset m + 1 in
    let l : number_at top ds < 10 ^ top = number_at-lt top ds b fits in
    let h : 10 ^ (top + 1) ≤ 10 ^ offset p =
    pow-le-pow_right (omega arith) (omega (arith, ints, offset_is m, offset_is p)) in (
      number_at top ds,
      omega (arith, ap (λ v. v * weight p) (leading_none 0 ds refl)),
      (number_at-pos top ds b some back, omega (arith, powers top 1 (top + 1) refl)),
    )

-- ---- after it
-- rounding quotient and remainder is rounding the number
pub rounded_split : (mode : UnsignedRoundingMode) (step : ℕ) (remainder : Remainder) (n u k v : ℕ) → 0 < u
    → SplitsAs n u k remainder → RoundsTo mode step remainder k v
    → rounded_number mode (step * u) n ≡ v * u
rounded_split mode step remainder n u k v p (r, e, is) rounds = ap (rounded_number mode (step * u)) e ∙ rounds r u p is

module _ (m : ℤ) (ds : List ℕ) (low : negsuc 32767 ≤ℤ m) (high : m ≤ℤ pos 32767) (b : AllBelowBase 10 ds)
    (fits : length ds ≤ offset m + 1) (s : IsStripped ds) where
  -- a nonempty list of digits without leading and trailing zeros represents its number
  pub represents : 0 < length ds → Represents ds m (number_of ds m)
  unfolding number_of
  represents some =
      let less : number_at (offset m + 1) ds < 10 ^ (offset m + 1) = number_at-lt (offset m + 1) ds b fits in
      let least : 10 ^ (offset m + 1 - 1) ≤ number_at (offset m + 1) ds =
      number_at-ge (offset m + 1) ds some (s.front some) fits in
      let e : offset m + 1 - 1 ≡ offset m = omega arith in
      let at_most : 10 ^ (offset m + 1) ≤ weight (pos 32768) =
      pow-le-pow_right (omega arith) (omega (arith, ints, offset_is m, offset_is (pos 32768))) in
      record {
        number = refl;
        below_limit = omega arith;
        magnitude_is =
            first_is (number_at (offset m + 1) ds) (offset m) (omega (arith, ap (λ i. 10 ^ i) e)) less
            (omega (arith, ints, offset_is m))
            ∙ magnitude_at-offset m low;
        stripped = s;
        fits = fits;
        least = low;
        greatest = high;
      }

-- the empty list represents 0, at magnitude 0
pub represents_none : (ds : List ℕ) (n : ℕ) → length ds ≡ 0 → n ≡ 0 → Represents ds (pos 0) n
unfolding number_of
represents_none ds n z e = grind (arith, number_at-none, ten_pos, first_zero)

-- digits that start at the highest place write the number of the leading digits times the weight of p
pub number_up : (p m : ℤ) (places : ℕ) (ds : List ℕ) → negsuc 32767 ≤ℤ p → negsuc 32767 ≤ℤ m → length ds ≤ places
    → (m +ℤ pos 1) ≡ (p +ℤ pos places) → number_of ds m ≡ leading places ds * weight p
unfolding number_of
number_up p m places ds low low' fits e =
    let at : offset m + 1 ≡ places + offset p = omega (arith, ints, offset_is m, offset_is p) in
    ap (λ i. number_at i ds) at ∙ number_at-more places (offset p) ds fits
    ∙ ap (λ n. n * weight p) (leading_all places ds fits)

-- ---- how many digits there are
-- a number of k digits, the last of which is not 0, has this size from each position on
pub size_is : (p : ℤ) (k m : ℕ) → 0 < k → HasDigits k m → negsuc 32767 ≤ℤ p → offset p + k ≤ 65536
    → size (m * weight p) ≡ k
size_is p k m some d low h =
    let n = m * weight p in
    let least : 10 ^ (k - 1) * weight p ≤ m * weight p = mul-le-mul_right (weight p) d.least in
    let most : m * weight p < 10 ^ k * weight p = mul-lt-mul_of_pos_right d.most (ten_pos (offset p)) in
    let above : first (m * weight p) ≡ magnitude_at (k - 1 + offset p) =
    first_is (m * weight p) (k - 1 + offset p) (omega (arith, powers (k - 1) (offset p) (k - 1 + offset p) refl))
    (omega (arith, powers k (offset p) (k - 1 + offset p + 1) (omega arith))) (omega arith) in
    grind (steps, last_is, mul-pos, ten_pos, gap_is)

-- ---- why a number is not rounded
-- an error of rounding the kept digits is an error of rounding the number
pub digit_rounding_fails : (e : RoundError) (mode : UnsignedRoundingMode) (increment : RoundingIncrement)
    (fit room k : ℕ)
    (ds : List ℕ) (remainder : Remainder) (n : ℕ) (p : ℤ) → negsuc 32767 ≤ℤ p → (p +ℤ pos room) ≡ pos 32768
    → (0 < k → offset p + k ≤ 65536)
    → SplitsAs n (weight p) (leading k ds) remainder → RoundLeadingFails e mode increment fit room k ds remainder
    → DigitRoundingFails e increment (length ds) (rounded_number mode (unit_at increment p) n) fit
digit_rounding_fails Limit mode increment fit room k ds remainder n p low top within splits_as (m, h, rounds) =
    let e =
    rounded_split mode (step_of increment) remainder n (weight p) (leading k ds) m (ten_pos (offset p)) splits_as
    rounds in
    let up : number_limit ≡ 10 ^ room * weight p =
    powers room (offset p) (offset (pos 32768)) (omega (arith, ints, offset_is p, offset_is (pos 32768))) in
    let more : 10 ^ room * weight p ≤ m * weight p = mul-le-mul_right (weight p) h in
    omega (arith, e, up, more)
digit_rounding_fails Memory mode increment fit room k ds remainder n p low top within splits_as (
  by_25,
  full,
  at_end,
  (m, has, rounds),
) =
    let e =
    rounded_split mode (step_of increment) remainder n (weight p) (leading k ds) m (ten_pos (offset p)) splits_as
    rounds in
    let some : 0 < k = omega arith in
    let most : m * weight p < 10 ^ k * weight p = mul-lt-mul_of_pos_right has.most (ten_pos (offset p)) in
    let at_most : 10 ^ (k + offset p) ≤ number_limit =
    pow-le-pow_right (omega arith) (omega (arith, ints, within some, offset_is (pos 32768))) in
    grind (steps, powers, size_is)
