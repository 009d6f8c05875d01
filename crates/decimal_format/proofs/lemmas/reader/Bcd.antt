-- Digits as packed BCD.
use Rattle.std.proofs.{Common.{◌≡◌, ℕ, ◌+◌, ◌*◌, ◌%◌, ◌^◌, ◌<◌, ◌≤◌, List, [], ◌∷◌, ◌++◌, length-append, refl, sym, ◌∙◌, ap, subst, arith}, lemmas.{Int.Digits.{number_after_append, number_lt}, Nat.shl_whole}, Math.Nat.{mod-eq_of_lt, pow-le-pow_right}}
use Rattle.std.specs.Int.Digits.{AllBelowBase}
use Rattle.fixed_decimal.proofs.Calling.{below_sixteen, hex_pow, number_after}
use Rattle.decimal_unsigned.specs.DigitValues.{IsBcd}
use Rattle.decimal_format.specs.Scanning.{HasBcd}

-- digits after digits
pub below_append : (ds es : List ℕ) → AllBelowBase 10 ds → AllBelowBase 10 es → AllBelowBase 10 (ds ++ es)
below_append [] es all more = more
below_append (d ∷ ds) es all more = (all.0, below_append ds es all.1 more)

-- the first of several digits, and the others
pub below_first : (ds more : List ℕ) → AllBelowBase 10 (ds ++ more) → AllBelowBase 10 ds
below_first [] more all = tt
below_first (d ∷ ds) more all = (all.0, below_first ds more all.1)

pub below_rest : (ds more : List ℕ) → AllBelowBase 10 (ds ++ more) → AllBelowBase 10 more
below_rest [] more all = all
below_rest (d ∷ ds) more all = below_rest ds more all.1

-- a digit takes four bits
pub bcd_lt : (n k : ℕ) (ds : List ℕ) → IsBcd n k ds → n < 16 ^ k
bcd_lt n k ds is = grind (arith, number_lt, below_sixteen)

-- digits after others
pub bcd_append : (n k m j : ℕ) (ds es : List ℕ) → IsBcd n k ds → IsBcd m j es
    → IsBcd (n * 16 ^ j + m) (k + j) (ds ++ es)
bcd_append n k m j ds es is more = grind (arith, below_append, length-append, number_after_append, number_after)

-- ---- The last sixteen of any number of digits.
pub last_none : HasBcd 0 0 []
last_none = record { digits = tt; count = refl; number = refl }

-- one digit more
pub last_push : (n k d : ℕ) (ds : List ℕ) → d < 10 → HasBcd n k ds
    → HasBcd (n * 2 ^ 4 % 2 ^ 64 + d) (k + 1) (ds ++ d ∷ [])
last_push n k d ds below is = grind (arith, below_append, length-append, number_after_append, number_after)

-- sixteen digits have room in a word
pub last_is_bcd : (n k : ℕ) (ds : List ℕ) → HasBcd n k ds → k ≤ 16 → IsBcd n k ds
last_is_bcd n k ds is few = grind (arith, pow-le-pow_right, number_lt, below_sixteen, mod-eq_of_lt)

-- the digits of two words that one has room for
pub short_word : {n k m j : ℕ} {ds es : List ℕ} → HasBcd n k ds → HasBcd m j es → k + j ≤ 16
    → IsBcd (n * 2 ^ (4 * j) % 2 ^ 64 + m) (k + j) (ds ++ es) × (n * 2 ^ (4 * j) % 2 ^ 64 + m < 2 ^ 64)
short_word {n = n} {k = k} {m = m} {j = j} {ds = ds} {es = es} p q room =
    let is = last_is_bcd n k ds p (omega (arith, room)) in
    let more = last_is_bcd m j es q (omega (arith, room)) in
    let whole : n * 2 ^ (4 * j) % 2 ^ 64 ≡ n * 16 ^ j =
    shl_whole n (4 * k) (4 * j) 64 (subst (λ x. n < x) (sym (hex_pow k)) (bcd_lt n k ds is)) (omega (arith, room))
    ∙ ap (λ x. n * x) (hex_pow j) in
    let joined = subst (λ x. IsBcd (x + m) (k + j) (ds ++ es)) (sym whole) (bcd_append n k m j ds es is more) in
    let most : 16 ^ (k + j) ≤ 16 ^ 16 = pow-le-pow_right (omega arith) room in
    (joined, omega (arith, bcd_lt _ (k + j) (ds ++ es) joined, most))
