-- The number that a list of decimal digits writes.
use Rattle.std.proofs.{Common.{◌≡◌, ℕ, zero, suc, ◌+◌, ◌-◌, ◌*◌, ◌/◌, ◌%◌, ◌^◌, ◌<◌, ◌≤◌, List, [], ◌∷◌, ◌++◌, length, get_or, take, drop, replicate, sym, ◌∙◌, ap, arith, rules}, Math.Nat.{mul-le-mul_right, pow-zero, pow-suc, one-le-pow, div-one}, lemmas.{Bool.Decides.nat_tests, Int.Digits.{number_lt, number_after_append, number_more}, Int.{ints, clamps}, List.{take-append-drop, length-drop}, Nat.{div-mul-add, mod-mul-add}}}
use Rattle.std.specs.Int.Digits.{number_from_digits_after, number_from_digits, AllBelowBase}

-- a power of ten is above 0
pub ten_pos : (k : ℕ) → 0 < 10 ^ k
ten_pos k = omega (arith, one-le-pow k 10 (omega arith))

-- a number continued by n digits is multiplied by the base to the n
pub number_after : (base n : ℕ) (ds : List ℕ)
    → number_from_digits_after base n ds ≡ n * base ^ length ds + number_from_digits base ds
number_after base n [] = grind (arith, pow-zero)
number_after base n (d ∷ ds) =
    let e : number_from_digits base (d ∷ ds) ≡ (0 * base + d) * base ^ length ds + number_from_digits base ds =
    number_after base (0 * base + d) ds in
    let p : base ^ length (d ∷ ds) ≡ base ^ length ds * base = pow-suc base (length ds) in
    number_after base (n * base + d) ds ∙ (rw (e, p) (omega arith))

-- the first digit is multiplied by the weight of its place
pub number_first : (base d : ℕ) (ds : List ℕ)
    → number_from_digits base (d ∷ ds) ≡ d * base ^ length ds + number_from_digits base ds
number_first base d ds = number_after base (0 * base + d) ds ∙ (omega arith)

-- k trailing zeros multiply a number by the base to the k
pub number_zeros : (base n k : ℕ) → number_from_digits_after base n (replicate k 0) ≡ n * base ^ k
number_zeros base n zero = (let e : n ≡ n * 1 = omega arith in e) ∙ ap (λ p. n * p) (sym (pow-zero base))
number_zeros base n (suc k) =
    let p : base ^ suc k ≡ base ^ k * base = pow-suc base k in
    number_zeros base (n * base + 0) k ∙ (rw p (omega arith))

-- k trailing zeros multiply the number that digits write by the base to the k
pub number_pad : (base k : ℕ) (ds : List ℕ)
    → number_from_digits base (ds ++ replicate k 0) ≡ number_from_digits base ds * base ^ k
number_pad base k ds = grind (arith, number_after_append, number_zeros)

-- the number that a concatenation of digits writes
pub number-append : (xs ys : List ℕ)
    → number_from_digits 10 (xs ++ ys) ≡ number_from_digits 10 xs * 10 ^ length ys + number_from_digits 10 ys
number-append xs ys = number_after_append 10 0 xs ys ∙ number_after 10 (number_from_digits 10 xs) ys

-- what is left after the first k digits are digits
pub below_drop : (base k : ℕ) (ds : List ℕ) → AllBelowBase base ds → AllBelowBase base (drop k ds)
below_drop base zero ds h = h
below_drop base (suc k) [] h = tt
below_drop base (suc k) (d ∷ ds) h = below_drop base k ds h.1

-- the first k digits are digits
pub below_take : (base k : ℕ) (ds : List ℕ) → AllBelowBase base ds → AllBelowBase base (take k ds)
below_take base zero ds h = tt
below_take base (suc k) [] h = tt
below_take base (suc k) (d ∷ ds) h = (h.0, below_take base k ds h.1)

-- the first k digits and the others
pub number_split : (base k : ℕ) (ds : List ℕ) → k ≤ length ds
    → number_from_digits base ds
    ≡ number_from_digits base (take k ds) * base ^ (length ds - k) + number_from_digits base (drop k ds)
number_split base k ds h =
    ap (number_from_digits base) (sym (take-append-drop k ds))
    ∙ number_after_append base 0 (take k ds) (drop k ds)
    ∙ number_after base (number_from_digits base (take k ds)) (drop k ds)
    ∙ ap (λ n. number_from_digits base (take k ds) * base ^ n + number_from_digits base (drop k ds)) (length-drop k ds)

-- what follows the first k digits is less than one unit of the last of these
pub number-drop-lt : (base k : ℕ) (ds : List ℕ) → AllBelowBase base ds
    → number_from_digits base (drop k ds) < base ^ (length ds - k)
number-drop-lt base k ds h = grind (arith, length-drop, number_lt, below_drop)

-- dividing by a power of the base keeps the leading digits
pub number-div : (base k : ℕ) (ds : List ℕ) → AllBelowBase base ds → k ≤ length ds
    → number_from_digits base ds / base ^ (length ds - k) ≡ number_from_digits base (take k ds)
number-div base k ds b h =
    ap (λ n. n / base ^ (length ds - k)) (number_split base k ds h) ∙ div-mul-add _ _ _ (number-drop-lt base k ds b)

-- each digit is below ten
pub below_at : (i : ℕ) (ds : List ℕ) → AllBelowBase 10 ds → i < length ds → get_or ds i 0 < 10
below_at i [] h p = absurd (omega arith)
below_at zero (d ∷ ds) h p = h.0
below_at (suc i) (d ∷ ds) h p = below_at i ds h.1 (omega arith)

-- a division and a remainder give one digit
pub number-digit : (i : ℕ) (ds : List ℕ) → AllBelowBase 10 ds → i < length ds
    → number_from_digits 10 ds / 10 ^ (length ds - (i + 1)) % 10 ≡ get_or ds i 0
number-digit i ds b h = grind (arith, number-div, number_more, mod-mul-add, below_at)

-- digits whose first is not 0
pub number_front : (ds : List ℕ) → 0 < length ds → 0 < get_or ds 0 0 → 10 ^ (length ds - 1) ≤ number_from_digits 10 ds
number_front [] h f = absurd (omega arith)
number_front (d ∷ ds) h f = search (rules, arith, ints, clamps, nat_tests, number_after, mul-le-mul_right)

-- the last digit
pub number_back : (ds : List ℕ) → AllBelowBase 10 ds → 0 < length ds
    → number_from_digits 10 ds % 10 ≡ get_or ds (length ds - 1) 0
number_back ds b h =
    let e : length ds - ((length ds - 1) + 1) ≡ 0 = omega arith in
    let d : number_from_digits 10 ds / 10 ^ 0 ≡ number_from_digits 10 ds = div-one _ in
    ap (λ n. n % 10) (sym d ∙ ap (λ n. number_from_digits 10 ds / 10 ^ n) (sym e))
    ∙ number-digit (length ds - 1) ds b (omega arith)
