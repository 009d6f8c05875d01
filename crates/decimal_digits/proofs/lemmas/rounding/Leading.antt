-- The digits that are kept, and the last two of them.
use Rattle.std.proofs.{Common.{◌≡◌, ℕ, zero, suc, ◌+◌, ◌-◌, ◌*◌, ◌/◌, ◌%◌, ◌^◌, ◌<◌, ◌≤◌, List, [], ◌∷◌, length, get_or, take, drop, refl, sym, ◌∙◌, ap, arith, inl, inr, add-one}, Math.Nat.mul-le-mul_right, lemmas.{Bool.cases_lt, Int.Digits.number_more, List.{length-drop, length-take, length-take-le, take_all, get_or_past, get_or-take, get_or-drop}}}
use Rattle.std.specs.Int.Digits.{number_from_digits, AllBelowBase}
use Rattle.decimal_digits.proofs.lemmas.{digits.{DigitLists.{below_drop, below_take, ten_pos}, Rules.steps}, rounding.NumberAt.{powers, number_at-none, number_at-more, number_at-split, number_at-lt, number_at-ge, number_at-pos}}
use Rattle.decimal_digits.specs.{Digits.number_at, Remainders.{leading, RemainderIs, RemainderByDigit, HasDigits}, declared.rounding.remainder.Remainder.Remainder, declared.rounding.remainder.Remainder.TheVariants.{Zero, BelowHalf, Half, AboveHalf}}

-- the first 0 digits write the number 0
pub leading_none : (k : ℕ) (ds : List ℕ) → k ≡ 0 → leading k ds ≡ 0
leading_none k ds z = number_at-none k (take k ds) (omega (arith, length-take k ds))

-- if k is at least the length, the first k places hold all digits
pub leading_all : (k : ℕ) (ds : List ℕ) → length ds ≤ k → number_at k ds ≡ leading k ds
leading_all k ds h = ap (number_at k) (sym (take_all k ds h))

-- one digit more
pub leading_next : (k : ℕ) (ds : List ℕ) → leading (suc k) ds ≡ leading k ds * 10 + get_or ds k 0
unfolding number_at
leading_next k ds = elim (cases_lt k (length ds)) [
  | inl h ↦
      let a : suc k - length (take (suc k) ds) ≡ 0 = omega (arith, length-take (suc k) ds) in
      let b : k - length (take k ds) ≡ 0 = omega (arith, length-take k ds) in
      rw (a, b) (omega (arith, rw add-one at (number_more 10 ds k h)))
  | inr h ↦
      rw (take_all (suc k) ds (omega arith), take_all k ds h, get_or_past ds k 0 h)
      (let ten = powers (k - length ds) 1 (suc k - length ds) (omega arith) in
      omega (arith, ap (λ p. number_from_digits 10 ds * p) ten))
]

pub leading_more : (k : ℕ) (ds : List ℕ) → 0 < k → leading k ds ≡ leading (k - 1) ds * 10 + get_or ds (k - 1) 0
leading_more zero ds p = absurd (omega arith)
leading_more (suc k) ds p = let e : suc k - 1 ≡ k = omega arith in rw e (leading_next k ds)

-- the last digit is added, or 0 where there are no more
pub last_digit : (k : ℕ) (ds : List ℕ)
    → (leading k ds ≡ leading k ds) × (0 < k → leading k ds ≡ leading (k - 1) ds * 10 + get_or ds (k - 1) 0)
    × (length ds < k → get_or ds (k - 1) 0 ≡ 0) × (k ≡ 0 → leading k ds ≡ 0) × (k ≡ 0 → leading (k - 1) ds ≡ 0)
last_digit k ds = grind (arith, leading_more, get_or_past, leading_none)

-- the first k digits are hundreds and the last two
pub leading_two : (k : ℕ) (ds : List ℕ) → 2 ≤ k
    → leading k ds ≡ 100 * leading (k - 2) ds + (10 * get_or ds (k - 2) 0 + get_or ds (k - 1) 0)
leading_two k ds h = grind (arith, leading_more)

-- lists with the same first k digits
pub leading_same : (k : ℕ) (xs ys : List ℕ) → ((i : ℕ) → i < k → get_or xs i 0 ≡ get_or ys i 0)
    → leading k xs ≡ leading k ys
leading_same zero xs ys f = leading_none 0 xs (omega arith) ∙ sym (leading_none 0 ys (omega arith))
leading_same (suc k) xs ys f =
    omega (arith, leading_next, leading_same k xs ys (λ i h. f i (omega arith)), f k (omega arith))

-- the number that digits followed by n equal digits write
pub leading_run : (n j k d : ℕ) (xs : List ℕ) → j + n ≡ k → ((i : ℕ) → j ≤ i → i < k → get_or xs i 0 ≡ d)
    → 9 * leading k xs + d ≡ (9 * leading j xs + d) * 10 ^ n
leading_run zero j k d xs e f = let s : j ≡ k = omega arith in rw s (omega arith)
leading_run (suc n) j k d xs e f =
    omega (
      arith,
      leading_run n j (k - 1) d xs (omega arith) (λ i h l. f i h (omega arith)),
      leading_more k xs (omega arith),
      f (k - 1) (omega arith) (omega arith),
      ap (λ p. (9 * leading j xs + d) * p) (powers n 1 (suc n) (omega arith)),
    )

-- incrementing a digit and replacing the nines after it by zeros increments the number
pub leading_raised : (k j : ℕ) (xs ys : List ℕ) → j < k
    → ((i : ℕ) → i < j → get_or ys i 0 ≡ get_or xs i 0) → get_or ys j 0 ≡ get_or xs j 0 + 1
    → ((i : ℕ) → suc j ≤ i → i < k → get_or xs i 0 ≡ 9) → ((i : ℕ) → suc j ≤ i → i < k → get_or ys i 0 ≡ 0)
    → leading k ys ≡ leading k xs + 1
leading_raised k j xs ys h same up nine zeros =
    let next : leading (suc j) ys ≡ leading (suc j) xs + 1 =
    omega (arith, leading_next j xs, leading_next j ys, leading_same j ys xs same) in
    let n = k - suc j in
    omega (
      arith,
      leading_run n (suc j) k 9 xs (omega arith) nine,
      leading_run n (suc j) k 0 ys (omega arith) zeros,
      ap (λ v. 9 * v * 10 ^ n) next,
    )

-- the successor of a number written by nines is a power of ten
pub leading_carry : (k : ℕ) (xs : List ℕ) → ((i : ℕ) → i < k → get_or xs i 0 ≡ 9)
    → (leading k xs + 1 ≡ 10 ^ k) × (leading (k + 1) (1 ∷ []) ≡ 10 ^ k)
leading_carry k xs nine = (
  omega (
    arith,
    leading_run k 0 k 9 xs (omega arith) (λ i h l. nine i l),
    ap (λ v. (9 * v + 9) * 10 ^ k) (leading_none 0 xs refl),
  ),
  omega (
    arith,
    leading_run k 1 (k + 1) 0 (1 ∷ []) (omega arith) (λ i h l. get_or_past (1 ∷ []) i 0 h),
    ap (λ v. 9 * v * 10 ^ k) (leading_next 0 (1 ∷ []) ∙ ap (λ v. v * 10 + 1) (leading_none 0 (1 ∷ []) refl)),
  ),
)

-- the last two digits are replaced by two digits
pub leading_put : (k number : ℕ) (xs ys : List ℕ) → 2 ≤ k → ((i : ℕ) → i < k - 2 → get_or ys i 0 ≡ get_or xs i 0)
    → get_or ys (k - 2) 0 ≡ number / 10 → get_or ys (k - 1) 0 ≡ number % 10
    → leading k ys ≡ 100 * leading (k - 2) xs + number
leading_put k number xs ys h same tens ones = omega (arith, leading_two k ys h, leading_same (k - 2) ys xs same)

-- two places more than the number of digits
pub leading_hundred : (k : ℕ) (xs : List ℕ) → length xs ≤ k → leading (k + 2) xs ≡ 100 * leading k xs
leading_hundred k xs h = grind (arith, leading_two, get_or_past)

-- the leading digits and two digits more, of which the last is not 0
pub one_more : (k n : ℕ) (ds : List ℕ) → AllBelowBase 10 ds → 3 ≤ k → k ≡ length ds + 1 → 0 < get_or ds 0 0
    → n < 100 → 0 < n % 10
    → HasDigits k (100 * leading (k - 2) ds + n)
one_more k n ds b p h first small ends =
    let len : length (take (k - 2) ds) ≡ k - 2 = length-take-le (k - 2) ds (omega arith) in
    let most : leading (k - 2) ds < 10 ^ (k - 2) =
    number_at-lt (k - 2) (take (k - 2) ds) (below_take 10 (k - 2) ds b) (omega arith) in
    let least : 10 ^ (k - 2 - 1) ≤ leading (k - 2) ds = grind (steps, number_at-ge, get_or-take) in
    record {
      most = omega (arith, powers (k - 2) 2 k (omega arith));
      least = omega (arith, powers (k - 2 - 1) 2 (k - 1) (omega arith));
      ends = omega arith;
    }

-- ---- what follows the first k digits
-- the first k digits and the others, also where there are fewer
pub split_at : (top k : ℕ) (ds : List ℕ) → length ds ≤ top → k ≤ top
    → number_at top ds ≡ leading k ds * 10 ^ (top - k) + number_at (top - k) (drop k ds)
split_at top k ds fits h =
    let e : top ≡ k + (top - k) = omega arith in
    let at =
    ap (λ i. number_at i (take k ds)) e ∙ number_at-more k (top - k) (take k ds) (omega (arith, length-take k ds)) in
    grind (steps, cases_lt, number_at-split, number_at-none, length-drop, take_all)

module _ (top k : ℕ) (ds : List ℕ) (b : AllBelowBase 10 ds) (fits : length ds ≤ top) (h : k < length ds) where
  suffix_lt : number_at (top - k) (drop k ds) < 10 ^ (top - k)
  suffix_lt = number_at-lt (top - k) (drop k ds) (below_drop 10 k ds b) (omega (arith, length-drop k ds))

  behind_rest_lt : number_at (top - suc k) (drop (suc k) ds) < 10 ^ (top - suc k)
  behind_rest_lt = grind (arith, number_at-lt, below_drop, length-drop)

  suffix_pos : 0 < get_or ds (length ds - 1) 0 → 0 < number_at (top - k) (drop k ds)
  suffix_pos l = grind (arith, length-drop, number_at-pos, below_drop, get_or-drop)

  -- the first of them, and the others
  behind_next : (number_at (top - k) (drop k ds)
      ≡ get_or ds k 0 * 10 ^ (top - suc k) + number_at (top - suc k) (drop (suc k) ds))
      × (10 ^ (top - k) ≡ 10 ^ (top - suc k) * 10)
  behind_next =
      let ten = powers (top - suc k) 1 (top - k) (omega arith) in (
        omega (
          arith,
          split_at top k ds fits (omega arith),
          split_at top (suc k) ds fits (omega arith),
          ap (λ p. leading k ds * p) ten,
          ap (λ v. v * 10 ^ (top - suc k)) (leading_next k ds),
        ),
        ten,
      )

-- the first of the other digits determines the class of the remainder
pub tail_told : (remainder : Remainder) (top k : ℕ) (ds : List ℕ) → AllBelowBase 10 ds → 0 < get_or ds (length ds - 1) 0
    → RemainderByDigit remainder k ds → length ds ≤ top
    → RemainderIs remainder (number_at (top - k) (drop k ds)) (10 ^ (top - k))
tail_told Zero top k ds b back h fits = number_at-none (top - k) (drop k ds) (omega (arith, length-drop k ds))
tail_told BelowHalf top k ds b back (h, l) fits =
    grind (arith, suffix_pos, behind_next, behind_rest_lt, mul-le-mul_right)
tail_told Half top k ds b back (e, l) fits = grind (arith, behind_next, number_at-none, length-drop)
tail_told AboveHalf top k ds b back (h, l, more) fits =
    let p = 10 ^ (top - suc k) in
    let next = behind_next top k ds b fits h in (
      elim (cases_lt 5 (get_or ds k 0)) [
        | inl m ↦ omega (arith, next, mul-le-mul_right p m, ten_pos (top - suc k))
        | inr m ↦ let five : get_or ds k 0 ≡ 5 = omega arith in
            omega (arith, next, ap (λ v. v * p) five, suffix_pos top (suc k) ds b fits (omega (arith, more five)) back)
      ],
      suffix_lt top k ds b fits h,
    )
