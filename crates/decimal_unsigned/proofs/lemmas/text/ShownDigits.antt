-- The digits that a value shows.
use Rattle.std.proofs.{Common.{◌≡◌, ℕ, zero, suc, ◌+◌, ◌-◌, ◌*◌, ◌/◌, ◌%◌, ◌^◌, ◌<◌, List, [], ◌∷◌, ◌++◌, length, drop, min, get_or, refl, inl, inr, sym, ◌∙◌, ap, arith, w16, to_z, of_z, ℤ, pos, negsuc, ◌+ℤ◌, ◌-ℤ◌, ◌≤ℤ◌, ◌<ℤ◌, All, ◌≤◌, rules}, Math.Nat.{pow-le-pow_right, div-div-eq-div-mul, div-eq_of_lt}, lemmas.{Bool.cases_lt, Grind.{elements, same_number_lists}, Int.{ints, by_lt_z, to_z-of_z}, List.{length-append, nil_from_length, get_or_past}, Nat.pow-add}}
use Rattle.std.specs.Int.{int_gap}
use Rattle.decimal_digits.proofs.lemmas.{digits.{LeadingBytes.{get_or-padded, length-padded}, Packing.rest_at, Rules.steps, Words.{bcd_nibble, cut, word_nibble, zero_word}}, ops.Offsets.gap_is}
use Rattle.decimal_digits.specs.{Digits.number_of, Nibbles.{padded, bcd_number, word_nibbles}, Number.digit}
use Rattle.decimal_unsigned.proofs.lemmas.decimal.Values.{digit-number_of-above, digit-number_of-in, digit-number_of-below, high, magnitude_kept}
use Rattle.decimal_unsigned.specs.{ShownDigits.digits_down, Stored.IsStored}
use lib.Signed.{mag}

-- ---- A word of digits.
module _ (word ready : ℕ) (fits : word < 2 ^ 64) where
  abbrev others : List ℕ
  others = word_nibbles (word * 2 ^ 4 % 2 ^ 64)

  first_at : get_or (word_nibbles word) 0 0 ≡ word / 2 ^ 60
  first_at =
      sym (word_nibble word 0 fits (omega arith))
      ∙ (let e : word / 2 ^ 60 % 16 ≡ word / 2 ^ 60 = omega (arith, fits) in e)

  other_at : (k : ℕ) → get_or (word_nibbles word) (suc k) 0 ≡ get_or others k 0
  other_at k =
      sym (ap (λ xs. get_or xs k 0) (cut word 1 4 _ fits (omega arith) (omega arith) refl)
      ∙ rest_at (word_nibbles word) 1 1 k (suc k) (omega arith))

  digit_of : (k : ℕ) → k < ready
      → get_or (padded ready (word_nibbles word)) k 0 ≡ get_or (word / 2 ^ 60 ∷ padded (ready - 1) others) k 0
  digit_of k h = grind (arith, ints, get_or-padded, first_at, other_at)

  -- its first digit, and the word of the others
  pub word_next : 0 < ready → padded ready (word_nibbles word) ≡ word / 2 ^ 60 ∷ padded (ready - 1) others
  word_next some = grind (arith, length-padded, same_number_lists, digit_of)

-- the first sixteen digits of a list, in a word, and the others
pub word_front : (ds : List ℕ) (index rest : ℕ) → All (λ d. d < 10) ds
    → padded rest (drop index ds)
    ≡ padded (min rest 16) (word_nibbles (bcd_number (drop index ds)))
    ++ padded (rest - min rest 16) (drop (index + 16) ds)
word_front ds index rest h =
    grind (arith, length-padded, length-append, same_number_lists, elements, get_or-padded, bcd_nibble)

-- ---- The digits of a number.
module _ {ds : List ℕ} {m hi lo : ℤ} (t : IsStored ds m hi lo) where
  -- the digit at a magnitude up to the first is that at its index
  pub digit_at_index : (q : ℤ) (i : ℕ) → q +ℤ pos i ≡ m → negsuc 32767 ≤ℤ q → get_or ds i 0 ≡ digit (number_of ds m) q
  digit_at_index q i e low =
      elim (cases_lt i (length ds)) [
        | inl l ↦ sym (digit-number_of-in t q i e low l)
        | inr l ↦ get_or_past ds i 0 l ∙ sym (digit-number_of-below t q i e low l)
      ]

  -- also where the index is beyond the list at magnitudes above the first
  pub digit_by_index : (q : ℤ) (i : ℕ) → mag q < 32768
      → (to_z w16 (of_z w16 q) ≤ℤ to_z w16 (of_z w16 m) → to_z w16 (of_z w16 q) +ℤ pos i ≡ to_z w16 (of_z w16 m))
      → (to_z w16 (of_z w16 m) <ℤ to_z w16 (of_z w16 q) → 65536 < i)
      → get_or ds i 0 ≡ digit (number_of ds m) q
  digit_by_index q i fits within above =
      let at : to_z w16 (of_z w16 q) ≡ q = to_z-of_z w16 q (record { sfits = fits }) in
      let first : to_z w16 (of_z w16 m) ≡ m = magnitude_kept t in
      let low : negsuc 32767 ≤ℤ q = omega (arith, ints, fits) in
      by_lt_z m q
      (λ h.
      let none : 65536 < i = above (rw at (rw first h)) in
      get_or_past ds i 0 (omega (arith, t.fits, high t, none)) ∙ sym (digit-number_of-above t q h low))
      (λ h. digit_at_index q i (sym (ap (λ z. z +ℤ pos i) at) ∙ within (rw at (rw first h)) ∙ first) low)

-- a list of digits has one for each magnitude
pub length-digits_down : (number : ℕ) (m : ℤ) (n : ℕ) → length (digits_down number m n) ≡ n
unfolding digits_down
length-digits_down number m zero = refl
length-digits_down number m (suc n) = ap suc (length-digits_down number (m -ℤ pos 1) n)

pub get_or-digits_down : (number : ℕ) (m : ℤ) (n k : ℕ) → k < n
    → get_or (digits_down number m n) k 0 ≡ digit number (m -ℤ pos k)
unfolding digits_down
get_or-digits_down number m zero k h = elim h [ ]
get_or-digits_down number m (suc n) zero h = ap (digit number) (let e : m ≡ m -ℤ pos 0 = omega (arith, ints) in e)
get_or-digits_down number m (suc n) (suc k) h =
    grind (arith, ints, digit, (get_or-digits_down number (m -ℤ pos 1) n k (omega arith)))

-- zeros above the first digit, and then the stored digits with zeros after them, are the digits that are shown
pub stored_shown : {ds : List ℕ} {m hi lo : ℤ} → IsStored ds m hi lo → (above rest : ℕ) → above ≡ int_gap m hi
    → rest ≡ int_gap lo m + 1
    → padded above (word_nibbles 0) ++ padded rest ds ≡ digits_down (number_of ds m) hi (int_gap lo hi + 1)
stored_shown {ds} {m} {hi} {lo} t above rest a b =
    let n = number_of ds m in
    let size = length-digits_down n hi (int_gap lo hi + 1) in
    let fewer = length-padded above (word_nibbles 0) in
    let both = length-append (padded above (word_nibbles 0)) (padded rest ds) in
    let all : length (padded above (word_nibbles 0) ++ padded rest ds) ≡ int_gap lo hi + 1 =
    grind (arith, ints, gap_is, length-padded) in
    same_number_lists _ _ (omega (arith, size, all))
    (λ k k_lt.
    let l : k < int_gap lo hi + 1 = omega (arith, all) in
    let low : negsuc 32767 ≤ℤ (hi -ℤ pos k) = omega (arith, ints, t.in_range, gap_is lo hi, l) in
    (elim (cases_lt k above) [
      | inl h ↦
          let zero_at : get_or (padded above (word_nibbles 0) ++ padded rest ds) k 0 ≡ 0 =
          grind (arith, elements, get_or-padded, length-padded, zero_word 0 refl, h) in
          zero_at ∙ sym (digit-number_of-above t (hi -ℤ pos k) (omega (arith, ints, a, gap_is m hi, h)) low)
      | inr h ↦
          let at : get_or (padded above (word_nibbles 0) ++ padded rest ds) k 0 ≡ get_or ds (k - above) 0 =
          grind (arith, elements, get_or-padded, length-padded, h) in
          at ∙ digit_at_index t (hi -ℤ pos k) (k - above) (omega (arith, ints, a, gap_is m hi, t.hi_covers, h)) low
    ])
    ∙ sym (get_or-digits_down n hi (int_gap lo hi + 1) k l))

-- ---- The digits that an iterator has left.
-- their number
pub length-left : (ready word index rest : ℕ) (ds : List ℕ)
    → ready + rest ≡ length (padded ready (word_nibbles word) ++ padded rest (drop index ds))
length-left ready word index rest ds = simp (length-append, length-padded)

-- where no digit is ready, the next one is the first of a word
pub refilled : (ready old word count index rest : ℕ) (ds : List ℕ) → All (λ d. d < 10) ds → ready ≡ 0 → 0 < rest
    → word ≡ bcd_number (drop index ds) → word < 2 ^ 64 → count ≡ min rest 16
    → padded ready (word_nibbles old) ++ padded rest (drop index ds)
    ≡ word / 2 ^ 60 ∷ (padded (count - 1) (word_nibbles (word * 2 ^ 4 % 2 ^ 64))
    ++ padded (rest - count) (drop (index + 16) ds))
refilled ready old word count index rest ds h none some is fits by =
    let ys = padded (rest - count) (drop (index + 16) ds) in
    let empty : padded ready (word_nibbles old) ≡ [] = search (rules, arith, ints, nil_from_length, length-padded) in
    grind (steps, word_front, word_next)

-- none are left
pub none_left : (ready word index rest : ℕ) (ds : List ℕ) → ready ≡ 0 → rest ≡ 0
    → padded ready (word_nibbles word) ++ padded rest (drop index ds) ≡ []
none_left ready word index rest ds a b = nil_from_length _ (omega (arith, length-left ready word index rest ds))

-- ---- The digits from the highest magnitude down, from the packed BCD number of the first sixteen.
-- a nibble after a right shift is the digit that was there
shifted_nibble : (ds : List ℕ) → All (λ d. d < 10) ds → (zeros k n : ℕ) → k < 16 → zeros ≤ k → n < 2 ^ 64
    → n ≡ bcd_number ds → n / 2 ^ (4 * zeros) / 2 ^ (4 * (15 - k)) % 16 ≡ get_or ds (k - zeros) 0
shifted_nibble ds digits zeros k n l after fits e =
    let sum : 4 * zeros + 4 * (15 - k) ≡ 4 * (15 - (k - zeros)) = omega arith in
    ap (λ x. x % 16) (div-div-eq-div-mul n (2 ^ (4 * zeros)) (2 ^ (4 * (15 - k))))
    ∙ ap (λ x. n / x % 16) (sym (pow-add 2 (4 * zeros) (4 * (15 - k))) ∙ ap (λ x. 2 ^ x) sum)
    ∙ word_nibble n (k - zeros) fits (omega arith)
    ∙ ap (λ x. get_or (word_nibbles x) (k - zeros) 0) e
    ∙ bcd_nibble ds (k - zeros) digits (omega arith)

-- or 0 before the digits
shifted_zero : (zeros k n : ℕ) → k < zeros → n < 2 ^ 64 → k < 16
    → n / 2 ^ (4 * zeros) / 2 ^ (4 * (15 - k)) % 16 ≡ 0
shifted_zero zeros k n h l m =
    let high : 2 ^ 64 ≤ 2 ^ (4 * zeros + 4 * (15 - k)) =
    pow-le-pow_right {n = 2} (omega arith) {i = 64} {j = 4 * zeros + 4 * (15 - k)} (omega arith) in
    let none : n / 2 ^ (4 * zeros + 4 * (15 - k)) ≡ 0 = div-eq_of_lt (omega (arith, high)) in
    grind (arith, ints, div-div-eq-div-mul, pow-add)

module _ {ds : List ℕ} {m hi lo : ℤ} (t : IsStored ds m hi lo) where
  -- a nibble of the number of the first digits, after a right shift by the zeros before them
  pub digit_of_nibble : All (λ d. d < 10) ds → (zeros k n : ℕ) → m +ℤ pos zeros ≡ hi → n ≡ bcd_number ds
      → n < 2 ^ 64 → k < 16 → n / 2 ^ (4 * zeros) / 2 ^ (4 * (15 - k)) % 16 ≡ digit (number_of ds m) (hi -ℤ pos k)
  digit_of_nibble digits zeros k n at is fits l = elim (cases_lt k zeros) [
    | inl before ↦
        shifted_zero zeros k n before fits l
        ∙ sym (digit-number_of-above t (hi -ℤ pos k) (omega (arith, ints)) (omega (arith, ints, t.hi_in)))
    | inr after ↦
        shifted_nibble ds digits zeros k n l after fits is
        ∙ digit_at_index t (hi -ℤ pos k) (k - zeros) (omega (arith, ints)) (omega (arith, ints, t.hi_in))
  ]
