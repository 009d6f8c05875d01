-- Some of the digits of a number, as an integer.
use Rattle.std.proofs.{Common.{◌≡◌, ℕ, zero, suc, ◌+◌, ◌-◌, ◌*◌, ◌/◌, ◌%◌, ◌^◌, ◌<◌, ◌≤◌, refl, sym, ◌∙◌, ap, subst, arith, rules}, Math.Nat.{pow-suc, mod-lt, div-add-mod', div-div-eq-div-mul, mod-add-mod, mod-one, mod-eq_of_lt, dvd-mul_left, mod-mod_of_dvd}, lemmas.{Nat.{Gcd.dvd_refl, mod-mul-add, mul-mod_first, pow-add, div_below}, Int.ints}}
use Rattle.std.specs.{Int.◌∣◌, Prelude.{ℤ, pos, ◌-ℤ◌}}
use Rattle.decimal_digits.specs.Number.{offset, digit}
use Rattle.fixed_decimal.proofs.Calling.{ten_pos, offset_is, powers}
use Rattle.plural_rules.specs.DigitSlice.{digit_slice}

-- no digits have the value 0
pub digit_slice-zero : (n top : ℕ) → digit_slice n top 0 ≡ 0
digit_slice-zero n top = omega (arith, mod-one (n / 10 ^ top))

-- the last digit, and the digits before it
last_more : (q w : ℕ) → 0 < w → q % (w * 10) ≡ (q / 10 % w) * 10 + q % 10
last_more q w h = grind (arith, mod-lt, div-add-mod', mod-mul-add)

-- one digit more
pub digit_slice-suc : (n top k d : ℕ) → k < top → d ≡ n / 10 ^ (top - (k + 1)) % 10
    → digit_slice n top (k + 1) ≡ digit_slice n top k * 10 + d
digit_slice-suc n top k d h e =
    let j = top - (k + 1) in
    let up : 10 ^ j * 10 ≡ 10 ^ (top - k) =
    sym (pow-suc 10 j) ∙ ap (λ i. 10 ^ i) (let i : suc j ≡ top - k = omega arith in i) in
    let q : n / 10 ^ j / 10 ≡ n / 10 ^ (top - k) = div-div-eq-div-mul n (10 ^ j) 10 ∙ ap (λ i. n / i) up in
    ap (λ i. n / 10 ^ j % i) (pow-add 10 k 1)
    ∙ last_more (n / 10 ^ j) (10 ^ k) (ten_pos k)
    ∙ ap (λ i. (i % 10 ^ k) * 10 + n / 10 ^ j % 10) q
    ∙ ap (λ i. digit_slice n top k * 10 + i) (sym e)

-- the same modulo a modulus
pub digit_slice-modulo : (p m r d r' : ℕ) → r ≡ p % m → r' ≡ (r * 10 + d) % m → r' ≡ (p * 10 + d) % m
digit_slice-modulo p m r d r' e f =
    f ∙ ap (λ i. (i * 10 + d) % m) e
    ∙ sym (mod-add-mod (p % m * 10) m d)
    ∙ ap (λ i. (i + d) % m) (mul-mod_first p 10 m)
    ∙ mod-add-mod (p * 10) m d

-- more digits are no less
pub digit_slice-monotone : (n top k j : ℕ) → k + j ≤ top → digit_slice n top k ≤ digit_slice n top (k + j)
digit_slice-monotone n top k zero h = grind arith
digit_slice-monotone n top k (suc j) h =
    let more = digit_slice-suc n top (k + j) _ (omega arith) refl in
    let e : digit_slice n top (k + suc j) ≡ digit_slice n top (k + j + 1) = search (rules, arith) in
    omega (arith, digit_slice-monotone n top k j (omega arith), more, e)

-- all digits together
pub digit_slice-all : (n top k : ℕ) → k ≤ top → n < 10 ^ top → digit_slice n top k ≡ n / 10 ^ (top - k)
digit_slice-all n top k h l =
    let split : 10 ^ top ≡ 10 ^ k * 10 ^ (top - k) = powers k (top - k) top (omega arith) in
    mod-eq_of_lt (div_below n (10 ^ (top - k)) (10 ^ k) (ten_pos (top - k)) (omega arith))

-- the digit at the next lower magnitude
pub step : (n : ℕ) (t m : ℤ) (k d : ℕ) → d ≡ digit n m → m ≡ t -ℤ pos k → k < offset t + 1
    → digit_slice n (offset t + 1) (k + 1) ≡ digit_slice n (offset t + 1) k * 10 + d
step n t m k d e f h = grind (arith, ints, offset_is, digit_slice-suc)

-- a value that exceeds a limit still does with more digits
pub over : (n top k count limit : ℕ) → k < count → count ≤ top → limit ≤ digit_slice n top (k + 1)
    → limit ≤ digit_slice n top count
over n top k count limit h l b =
    let e : k + 1 + (count - (k + 1)) ≡ count = omega arith in
    omega (arith, digit_slice-monotone n top (k + 1) (count - (k + 1)) (omega arith), ap (digit_slice n top) e)

-- the remainder by a power of ten depends on the last digits only
pub digit_slice-last : (n top count k : ℕ) → k < count → count ≤ top
    → digit_slice n (top - (count - k)) k % 10 ^ k ≡ digit_slice n top count % 10 ^ k
digit_slice-last n top count k h l =
    let q = n / 10 ^ (top - count) in
    let low : top - (count - k) - k ≡ top - count = omega arith in
    let w : 10 ^ count ≡ 10 ^ (count - k) * 10 ^ k = powers (count - k) k count (omega arith) in
    let divides : 10 ^ k ∣ 10 ^ count = subst (λ m. 10 ^ k ∣ m) (sym w) (dvd-mul_left (10 ^ k) (10 ^ (count - k))) in
    ap (λ i. n / 10 ^ i % 10 ^ k % 10 ^ k) low
    ∙ mod-mod_of_dvd (10 ^ k) q (dvd_refl (10 ^ k))
    ∙ sym (mod-mod_of_dvd (10 ^ k) q divides)
