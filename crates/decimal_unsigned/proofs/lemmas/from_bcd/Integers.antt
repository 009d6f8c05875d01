-- Digits whose last is at magnitude 0, without trailing zeros.
use Rattle.std.proofs.{Common.{◌≡◌, ℕ, zero, suc, ◌+◌, ◌-◌, ◌*◌, ◌^◌, ◌<◌, ◌≤◌, List, length, get_or, take, drop, refl, sym, ◌∙◌, ap, arith, inl, inr, Result, Ok, Err, ℤ, pos, ◌≤ℤ◌, All, IfOk}, Math.Nat.mul-le-mul_right, lemmas.{Bool.cases_lt, Grind.elements, Int.Digits.{number_lt, all_below_base_digits_of, first_digits_of}, Int.ints, List.Elements.{recursion_from_All, All-from_recursion}, List.{length-take-le, get_or-take}, Nat.pow-add}}
use Rattle.std.specs.Int.Digits.{number_from_digits, AllBelowBase, digits_of}
use Rattle.decimal_digits.proofs.lemmas.{digits.{DigitLists.{ten_pos, below_take}, Rules.steps}, ops.Offsets.{offset_is, magnitude_at-offset}, rounding.Ends.first_is}
use Rattle.decimal_digits.specs.{Digits.number_of, Number.{offset, weight, first, size, magnitude_at}}
use Rattle.decimal_unsigned.proofs.lemmas.{decimal.{FirstLast.first_le, Values.{first_of, number_of-none, size-number_of, stored_as}}, parse.Middle.number_of-middle}
use Rattle.decimal_unsigned.specs.{ScannedDigits.{middle, IsNonzeroRange}, Stored.IsStored, Unsigned.{Unsigned, integer_value, one_value}}

-- the digits up to the last one that is not 0
pub record UpToLast (ds : List ℕ) (end : ℕ) : Type 0 where
  pub digits : All (λ d. d < 10) ds
  pub front : 0 < length ds → 0 < get_or ds 0 0
  pub few : length ds ≤ 39
  pub within : end ≤ length ds
  pub zeros : (k : ℕ) → end ≤ k → get_or ds k 0 ≡ 0
  pub found : 0 < end → 0 < get_or ds (end - 1) 0

module _ {ds : List ℕ} {end : ℕ} (e : UpToLast ds end) where
  some : 0 < length ds → 0 < end
  some h = grind arith

  all_digits : AllBelowBase 10 ds
  all_digits = recursion_from_All (λ d. d < 10) ds e.digits

  long : length (take end ds) ≡ end
  long = length-take-le end ds e.within

  module _ (m : ℤ) (at : m ≡ pos (length ds - 1)) where
    -- the digits up to the last one that is not 0, as a value holds them
    pub whole_stored : IsStored (take end ds) m m (pos 0)
    whole_stored =
        stored_as (below_take 10 end ds all_digits)
        (λ h. rw (get_or-take end ds 0 0 (omega (arith, long))) (e.front (omega (arith, long, e.within))))
        (λ h. rw (long, get_or-take end ds (end - 1) 0 (omega (arith, long))) (e.found (omega (arith, long))))
        (λ z. elim (cases_lt 0 (length ds)) [
          | inl h ↦ absurd (omega (arith, some h, long))
          | inr h ↦ omega (arith, ints, at)
        ])
        (λ h. (omega (arith, ints), omega (arith, ints, at, long, e.within)))
        (omega (arith, ints, at), omega (arith, ints, at, e.few)) (omega (arith, ints), omega (arith, ints))

    -- b is 0: a power of ten at a numeral would be computed
    number_over : (b : ℕ) → b ≡ 0 → number_of (take end ds) m ≡ number_from_digits 10 ds * 10 ^ (32768 - b)
    number_over b z = elim (cases_lt 0 (length ds)) [
      | inl h ↦
          let inner : IsNonzeroRange ds 0 end = grind (arith, some) in
          let all : middle 0 end ds ≡ take end ds = ap (λ n. take n ds) (let k : end - 0 ≡ end = omega arith in k) in
          ap (λ l. number_of l m) (sym all)
          ∙ number_of-middle ds 0 end (length ds) b m inner (omega arith) (omega arith)
          (omega (arith, ints, at, h, offset_is m))
      | inr h ↦ grind (steps, number_lt, all_digits, long, number_of-none, whole_stored)
    ]

    -- they have the number of the integer
    pub whole_number : number_of (take end ds) m ≡ number_from_digits 10 ds * weight (pos 0)
    whole_number = go 0 refl
      where
        go : (b : ℕ) → b ≡ 0 → number_of (take end ds) m ≡ number_from_digits 10 ds * weight (pos 0)
        go b z =
            number_over b z
            ∙ ap (λ k. number_from_digits 10 ds * 10 ^ k)
            (let k : 32768 - b ≡ offset (pos 0) = omega (arith, ints, offset_is (pos 0)) in k)

    -- they make its value
    pub whole_value : record { number = number_of (take end ds) m; hi = m; lo = pos 0 }
        ≡ integer_value (number_from_digits 10 ds)
    whole_value =
        let f = sym (first_of whole_stored) ∙ ap first whole_number in
        λ i. record { number = whole_number i; hi = f i; lo = pos 0 }

    -- and their length is the size of the number that they write
    pub whole_size : length (take end ds) ≡ size (number_from_digits 10 ds * weight (pos 0))
    whole_size = sym (size-number_of whole_stored) ∙ ap size whole_number

-- ---- the digits of an integer, at the end of 39 places
-- the digits from start to the end of the places
pub digits_at_end : (places : List ℕ) (start n : ℕ) → drop start places ≡ digits_of 10 n → length places ≡ 39
    → take (39 - start) (drop start places) ≡ digits_of 10 n
digits_at_end places start n e l = grind (arith, elements)

-- the digits of an integer are below ten
pub digits_of-below : (n : ℕ) → All (λ d. d < 10) (digits_of 10 n)
digits_of-below n = All-from_recursion (λ d. d < 10) (digits_of 10 n) (all_below_base_digits_of 10 n (omega arith))

-- the first of them is not 0
pub digits_of-front : (n : ℕ) → 0 < length (digits_of 10 n) → 0 < get_or (digits_of 10 n) 0 0
digits_of-front zero h = absurd (omega arith)
digits_of-front (suc n) h = first_digits_of 10 (suc n) (omega arith) (omega arith)

-- ---- where the value of an integer is shown
-- an integer of at most d + 1 digits is shown from the magnitude d down, or from a lower one
shown_from : (n d : ℕ) → n < 10 ^ (d + 1) → d < 32768 → (integer_value n).hi ≤ℤ pos d
shown_from n d few small =
    let k : offset (pos d) + 1 ≡ (d + 1) + offset (pos 0) = omega (arith, ints, offset_is (pos d), offset_is (pos 0)) in
    let split : 10 ^ (offset (pos d) + 1) ≡ 10 ^ (d + 1) * weight (pos 0) = grind (arith, pow-add) in
    let more : (n + 1) * weight (pos 0) ≤ 10 ^ (d + 1) * weight (pos 0) = grind (arith, mul-le-mul_right) in
    grind (arith, ints, first_le, ten_pos)

-- its value is shown from there to magnitude 0
pub shown_at_most : {v : Unsigned} (n d : ℕ) → n < 10 ^ (d + 1) → d < 32768 → v ≡ integer_value n
    → (v.hi ≤ℤ pos d) × (v.lo ≡ pos 0)
shown_at_most n d few small e = grind (steps, shown_from)

-- and so is the value of a result that is `Ok`
pub answer_at_most : {E : Type 0} (answer : Result Unsigned E) (n d : ℕ) → n < 10 ^ (d + 1) → d < 32768
    → IfOk answer (λ v. v ≡ integer_value n)
    → IfOk answer (λ v. (v.hi ≤ℤ pos d) × (v.lo ≡ pos 0))
answer_at_most (Ok v) n d few small e = shown_at_most n d few small e
answer_at_most (Err x) n d few small e = tt

-- ---- the number 1
first_power : (k : ℕ) → k < 65536 → first (10 ^ k) ≡ magnitude_at k
first_power k h = first_is (10 ^ k) k (omega arith) (omega (arith, ten_pos k, pow-add 10 k 1)) h

-- the value of the integer 1 is one
pub integer_value-one : integer_value 1 ≡ one_value
integer_value-one =
    let n : 1 * weight (pos 0) ≡ weight (pos 0) = omega arith in
    grind (steps, first_power, offset_is, magnitude_at-offset)

-- where an integer is shown
pub ruleset ranges = (shown_at_most, answer_at_most, integer_value-one)
