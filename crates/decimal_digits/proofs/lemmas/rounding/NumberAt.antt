-- The number that a list of digits writes at given places.
use Rattle.std.proofs.{Common.{◌≡◌, ℕ, ◌+◌, ◌-◌, ◌*◌, ◌^◌, ◌<◌, ◌≤◌, List, [], ◌∷◌, length, get_or, take, drop, ◌∙◌, ap, arith, ℤ}, Math.Nat.{mul-le-mul_right, mul-lt-mul_of_pos_right, mul-pos, mod-le}, lemmas.{Int.Digits.number_lt, List.{length-take-le, length-drop}, Nat.pow-add}}
use Rattle.std.specs.Int.Digits.{AllBelowBase}
use Rattle.decimal_digits.proofs.lemmas.digits.DigitLists.{ten_pos, number_split, number_front, number_back}
use Rattle.decimal_digits.specs.{Digits.{number_at, number_of}, Number.offset}

-- the power of a sum of exponents is the product of the powers
pub powers : (a b c : ℕ) → c ≡ a + b → 10 ^ c ≡ 10 ^ a * 10 ^ b
powers a b c e = ap (λ k. 10 ^ k) e ∙ pow-add 10 a b

-- no digits write the number 0
pub number_at-none : (top : ℕ) (ds : List ℕ) → length ds ≡ 0 → number_at top ds ≡ 0
unfolding number_at
number_at-none top [] e = omega arith
number_at-none top (d ∷ ds) e = absurd (omega arith)

-- k more places below multiply the number by 10 ^ k
pub number_at-more : (top k : ℕ) (ds : List ℕ) → length ds ≤ top → number_at (top + k) ds ≡ number_at top ds * 10 ^ k
unfolding number_at
number_at-more top k ds h = rw (powers (top - length ds) k (top + k - length ds) (omega arith)) (omega arith)

-- the number is the sum of those that the first k digits and the others write
pub number_at-split : (top k : ℕ) (ds : List ℕ) → k ≤ length ds → length ds ≤ top
    → number_at top ds ≡ number_at top (take k ds) + number_at (top - k) (drop k ds)
unfolding number_at
number_at-split top k ds h l =
    let first = powers (length ds - k) (top - length ds) (top - length (take k ds))
    (omega (arith, length-take-le k ds h)) in
    let others : top - k - length (drop k ds) ≡ top - length ds = omega (arith, length-drop k ds) in
    rw (first, others, number_split 10 k ds h) (omega arith)

-- the number that digits in `top` places write is less than 10 ^ top
pub number_at-lt : (top : ℕ) (ds : List ℕ) → AllBelowBase 10 ds → length ds ≤ top → number_at top ds < 10 ^ top
unfolding number_at
number_at-lt top ds b h =
    rw (powers (length ds) (top - length ds) top (omega arith))
    (mul-lt-mul_of_pos_right (number_lt 10 ds b) (ten_pos (top - length ds)))

-- if the first digit is not 0, the number is at least 10 ^ (top - 1)
pub number_at-ge : (top : ℕ) (ds : List ℕ) → 0 < length ds → 0 < get_or ds 0 0 → length ds ≤ top
    → 10 ^ (top - 1) ≤ number_at top ds
unfolding number_at
number_at-ge top ds p f h =
    rw (powers (length ds - 1) (top - length ds) (top - 1) (omega arith))
    (mul-le-mul_right (10 ^ (top - length ds)) (number_front ds p f))

-- if the last digit is not 0, the number is not 0
pub number_at-pos : (top : ℕ) (ds : List ℕ) → AllBelowBase 10 ds → 0 < length ds → 0 < get_or ds (length ds - 1) 0
    → 0 < number_at top ds
unfolding number_at
number_at-pos top ds b p l = grind (arith, mul-pos, number_back, mod-le, ten_pos)

-- no digits write the number 0 at every magnitude
pub number_of-none : (ds : List ℕ) (m : ℤ) → length ds ≡ 0 → number_of ds m ≡ 0
unfolding number_of
number_of-none ds m z = number_at-none (offset m + 1) ds z
