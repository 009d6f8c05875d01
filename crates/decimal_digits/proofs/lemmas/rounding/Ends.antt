-- The first and the last digit of a number.
use Rattle.std.proofs.{Common.{◌≡◌, ℕ, zero, suc, ◌+◌, ◌-◌, ◌*◌, ◌/◌, ◌%◌, ◌^◌, ◌<◌, ◌≤◌, ◌==◌, true, false, refl, sym, ◌∙◌, ap, subst, arith, rules, inl, inr, pos, nat_le, Bool}, Math.Nat.{pow-le-pow_right, div-add-mod', mul-pos, mod-le, pow-suc, mul-mod_left, mul-div_cancel, div-eq_of_lt, mul-div-mul_right}, lemmas.{Bool.cases_lt, Nat.pow-add}}
use Rattle.decimal_digits.proofs.lemmas.digits.DigitLists.{ten_pos}
use Rattle.decimal_digits.specs.Number.{greatest, first, last, magnitude_at}

-- the greatest number that passes a test passes it, and no greater one does
pub greatest_is : (test : ℕ → Bool) (n j : ℕ) → j < n → test j ≡ true → ((i : ℕ) → j < i → i < n → test i ≡ false)
    → greatest test n ≡ j
unfolding greatest
greatest_is test zero j h t f = absurd (omega arith)
greatest_is test (suc k) j h t f = elim (cases_lt j k) [
  | inl lt ↦ rw (f k lt (omega arith)) (greatest_is test k j lt t (λ i p q. f i p (omega arith)))
  | inr ge ↦ let e : j ≡ k = omega arith in rw (subst (λ i. test i ≡ true) e t) (sym e)
]

pos_of_mod : (v : ℕ) → 0 < v % 10 → 0 < v
pos_of_mod v h = omega (arith, mod-le v 10)

-- the first digit of a number between two powers of ten
pub first_is : (n k : ℕ) → 10 ^ k ≤ n → n < 10 ^ (k + 1) → k < 65536 → first n ≡ magnitude_at k
unfolding first
first_is zero k h l b = absurd (omega (arith, ten_pos k))
first_is (suc n) k h l b =
    ap magnitude_at
    (greatest_is (λ i. nat_le (10 ^ i) (suc n)) 65536 k b (search (rules, h))
    (λ i p q. let m : 10 ^ (k + 1) ≤ 10 ^ i = pow-le-pow_right (omega arith) (omega arith) in search rules))

-- the last digit of a number is at the highest power of ten that divides it
pub last_at : (n k : ℕ) → 0 < n → n % 10 ^ k ≡ 0 → ((i : ℕ) → k < i → ¬ (n % 10 ^ i ≡ 0)) → k < 65536
    → last n ≡ magnitude_at k
unfolding last
last_at zero k h d f b = absurd (omega arith)
last_at (suc n) k h d f b =
    ap magnitude_at
    (greatest_is (λ i. suc n % 10 ^ i == 0) 65536 k b (search rules) (λ i p q. let m = f i p in search rules))

-- if v does not end in 0, no power of ten above 10 ^ e divides v * 10 ^ e
pub no_more_zeros : (v e i : ℕ) → 0 < v % 10 → e < i → ¬ ((v * 10 ^ e) % 10 ^ i ≡ 0)
no_more_zeros v e i h p z =
    let j = i - suc e in
    let q = v * 10 ^ e / 10 ^ i in
    let whole : q * 10 ^ i + (v * 10 ^ e) % 10 ^ i ≡ v * 10 ^ e = div-add-mod' (v * 10 ^ e) (10 ^ i) in
    let split : 10 ^ i ≡ (10 ^ j * 10) * 10 ^ e =
    ap (λ n. 10 ^ n) (let k : i ≡ suc j + e = omega arith in k)
    ∙ pow-add 10 (suc j) e
    ∙ ap (λ n. n * 10 ^ e) (pow-suc 10 j) in
    let same : v * 10 ^ e ≡ (q * 10 ^ j * 10) * 10 ^ e = sym whole ∙ rw (z, split) (omega arith) in
    let cut : v ≡ q * 10 ^ j * 10 =
    sym (mul-div_cancel v (ten_pos e)) ∙ ap (λ n. n / 10 ^ e) same ∙ mul-div_cancel (q * 10 ^ j * 10) (ten_pos e) in
    let ends : v % 10 ≡ 0 = ap (λ n. n % 10) cut ∙ mul-mod_left (q * 10 ^ j) 10 in
    omega arith

-- the last nonzero digit of v * 10 ^ e is at the offset e, if v does not end in 0
pub last_is : (v e : ℕ) → 0 < v % 10 → e < 65536 → last (v * 10 ^ e) ≡ magnitude_at e
last_is v e h b = grind (arith, last_at, pos_of_mod, mul-pos, ten_pos, mul-mod_left, no_more_zeros)

-- ---- one digit of v * 10 ^ e
-- the digit above all those of a number is 0
pub digit_above : (n k m : ℕ) → n < 10 ^ k → k ≤ m → n / 10 ^ m % 10 ≡ 0
digit_above n k m h p = grind (arith, pow-le-pow_right, div-eq_of_lt)

-- digits shifted up and then further down
pub shift_down : (v e m : ℕ) → e ≤ m → v * 10 ^ e / 10 ^ m ≡ v / 10 ^ (m - e)
shift_down v e m h = grind (arith, pow-add, mul-div-mul_right, ten_pos)

-- digits shifted up and then less far down
pub shift_up : (v e m : ℕ) → m ≤ e → v * 10 ^ e / 10 ^ m ≡ v * 10 ^ (e - m)
shift_up v e m h =
    let split : 10 ^ e ≡ 10 ^ (e - m) * 10 ^ m =
    ap (λ n. 10 ^ n) (let k : e ≡ (e - m) + m = omega arith in k) ∙ pow-add 10 (e - m) m in
    let same : v * 10 ^ e ≡ v * 10 ^ (e - m) * 10 ^ m = rw split (omega arith) in
    ap (λ n. n / 10 ^ m) same ∙ mul-div_cancel (v * 10 ^ (e - m)) (ten_pos m)

-- below the zeros that a shift writes, each digit is 0
pub digit_below : (v e m : ℕ) → m < e → v * 10 ^ e / 10 ^ m % 10 ≡ 0
digit_below v e m h =
    let split : 10 ^ (e - m) ≡ 10 ^ (e - m - 1) * 10 =
    ap (λ n. 10 ^ n) (let k : e - m ≡ suc (e - m - 1) = omega arith in k) ∙ pow-suc 10 (e - m - 1) in
    ap (λ n. n % 10)
    (shift_up v e m (omega arith)
    ∙ (let s : v * 10 ^ (e - m) ≡ v * 10 ^ (e - m - 1) * 10 = rw split (omega arith) in s))
    ∙ mul-mod_left (v * 10 ^ (e - m - 1)) 10

-- the first digit of 0 is at the magnitude 0
pub first_zero : first 0 ≡ pos 0
unfolding first
first_zero = refl

-- the last digit of 0 is at the magnitude 0
pub last_zero : last 0 ≡ pos 0
unfolding last
last_zero = refl
