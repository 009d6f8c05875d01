-- The digits of a number times a power of ten.
use Rattle.std.proofs.{Common.{◌≡◌, ℕ, zero, suc, ◌+◌, ◌-◌, ◌*◌, ◌/◌, ◌%◌, ◌^◌, ◌<◌, ◌≤◌, ◌==◌, refl, sym, ◌∙◌, ap, arith, rules, inl, inr}, Math.Nat.{mod-lt, dvd-mul_left, mul-lt-mul_of_pos_right, mul-pos, div-add-mod', div-eq_of_lt, pow-le-pow_right}, lemmas.{Nat.{mod-mul-add, Gcd.{dvd_trans, dvd_of_mod-eq-zero, mod-eq-zero_of_dvd}}, Int.{ints, clamps}, Bool.cases_lt}}
use Rattle.std.specs.{Prelude.{ℤ, pos, negsuc, ◌+ℤ◌, ◌≤ℤ◌}, Int.{int_max, int_min, ◌∣◌}}
use Rattle.decimal_digits.specs.Number.{offset, last, magnitude_at, IsFirst, IsLast}
use Rattle.decimal_unsigned.specs.Unsigned.{Unsigned}
use Rattle.fixed_decimal.proofs.Calling.{ten_pos, offset_is, gap_is, shift_down, last_at, last_zero, greatest_is, powers}
use Rattle.plural_rules.specs.{Operands.{Operands, compact, i, v, f}, DigitSlice.digit_slice}
use Rattle.plural_rules.proofs.lemmas.operands.DigitSlice.{digit_slice-all, digit_slice-zero}

-- a number is less than the weight of the place above its first digit
below_first : (n : ℕ) (m : ℤ) → IsFirst n m → n < 10 ^ (offset m + 1)
below_first n m first_is = grind (arith, cases_lt, ten_pos)

-- the integer digits of a number times a power of ten are its first digits
pub integer_digits_of : (o : Operands) (x : Unsigned) (m : ℤ) (c count : ℕ) → compact x c ≡ o
    → IsFirst x.number m → negsuc 32767 ≤ℤ m → m ≤ℤ pos 32767 → c < 256
    → pos count ≡ int_max (m +ℤ pos (c + 1)) (pos 0) → digit_slice x.number (offset m + 1) count ≡ i o.value
integer_digits_of o x m c count is first_is low high small e =
    let n = x.number in
    let few : count ≤ offset m + 1 = omega (arith, ints, clamps, e, offset_is m) in
    let down =
    ap (λ p. i p.value) (sym is) ∙ shift_down n c (offset (pos 0)) (omega (arith, ints, offset_is (pos 0))) in
    elim (cases_lt 0 count) [
      | inl p ↦
          let q : offset m + 1 - count ≡ offset (pos 0) - c = search (rules, arith, ints, clamps, offset_is) in
          digit_slice-all n (offset m + 1) count few (below_first n m first_is) ∙ ap (λ k. n / 10 ^ k) q ∙ sym down
      | inr z ↦
          let none : count ≡ 0 = omega arith in
          let le : 10 ^ (offset m + 1) ≤ 10 ^ (offset (pos 0) - c) =
          pow-le-pow_right (omega arith) (omega (arith, ints, clamps, e, none, offset_is m, offset_is (pos 0))) in
          let less : n < 10 ^ (offset (pos 0) - c) = omega (arith, le, below_first n m first_is) in
          ap (digit_slice n (offset m + 1)) none ∙ digit_slice-zero n (offset m + 1) ∙ sym (div-eq_of_lt less)
          ∙ sym down
    ]

-- the fraction digits of a value that is a number times a power of ten
pub fraction_at : (y : Unsigned) (number : ℕ) (m : ℤ) (c count : ℕ) → number * 10 ^ c ≡ y.number → y.lo ≤ℤ pos 0
    → m ≡ negsuc c → c < 256 → count ≡ v y → count + c ≤ 32768 → digit_slice number (offset m + 1) count ≡ f y
fraction_at y number m c count is high below small e few = grind (arith, ints, offset_is, gap_is, shift_down)

-- the remainder of a product by a power of ten, which divides by a factor of both
mod_powers : (n c k : ℕ) → c ≤ k → n * 10 ^ c % 10 ^ k ≡ n % 10 ^ (k - c) * 10 ^ c
mod_powers n c k h =
    let w = 10 ^ (k - c) in
    let split : 10 ^ k ≡ w * 10 ^ c = powers (k - c) c k (omega arith) in
    let parts : n * 10 ^ c ≡ n / w * (w * 10 ^ c) + n % w * 10 ^ c =
    ap (λ m. m * 10 ^ c) (sym (div-add-mod' n w)) ∙ (omega arith) in
    let less : n % w * 10 ^ c < w * 10 ^ c = mul-lt-mul_of_pos_right (mod-lt n (ten_pos (k - c))) (ten_pos c) in
    (λ i. parts i % split i) ∙ mod-mul-add (n / w) (w * 10 ^ c) (n % w * 10 ^ c) less

-- a multiple of 10^k is one of each lower power
fewer : (n j k : ℕ) → j ≤ k → n % 10 ^ k ≡ 0 → n % 10 ^ j ≡ 0
fewer n j k h e =
    let split : 10 ^ k ≡ 10 ^ (k - j) * 10 ^ j = powers (k - j) j k (omega arith) in
    let divides : 10 ^ j ∣ 10 ^ k = rw split (dvd-mul_left (10 ^ j) (10 ^ (k - j))) in
    mod-eq-zero_of_dvd (10 ^ j) (dvd_trans (10 ^ j) divides (dvd_of_mod-eq-zero (10 ^ k) e))

-- a factor is above 0
some : (n c : ℕ) → 0 < n * 10 ^ c → 0 < n
some n c h = grind arith

-- a factor of 0 is 0
none_left : (a k : ℕ) → 0 < k → a * k ≡ 0 → a ≡ 0
none_left a k h e = grind arith

-- the last digit of a number whose other places are all 0 is at the highest place
last_top : (n k : ℕ) → k + 1 ≡ 65536 → 0 < n → n % 10 ^ k ≡ 0 → last n ≡ magnitude_at k
unfolding last
last_top zero k e h d = absurd (omega arith)
last_top (suc n) k e h d =
    ap magnitude_at
    (greatest_is (λ m. suc n % 10 ^ m == 0) 65536 k (omega arith) (search rules) (λ m p q. absurd (omega arith)))

-- the last digit of a number times a power of ten, if it is below magnitude 0
pub last-shifted : (n c : ℕ) (m : ℤ) → IsLast n m → negsuc 32767 ≤ℤ m → m ≤ℤ pos 32767 → c < 256
    → int_min (last (n * 10 ^ c)) (pos 0) ≡ int_min (m +ℤ pos c) (pos 0)
last-shifted n c m l low high small = elim (cases_lt 0 n) [
  | inr z ↦
      let none : n ≡ 0 = omega arith in
      let product : 0 * 10 ^ c ≡ 0 = omega arith in
      let zero_is : last (n * 10 ^ c) ≡ pos 0 = ap (λ k. last (k * 10 ^ c)) none ∙ ap last product ∙ last_zero in
      omega (arith, ints, clamps, zero_is, l.none none)
  | inl p ↦
      let more : 0 < n * 10 ^ c = mul-pos p (ten_pos c) in
      elim (cases_lt (offset m + c) 65536) [
        | inl h ↦
            let k : offset m + c - c ≡ offset m = omega arith in
            let d : n * 10 ^ c % 10 ^ (offset m + c) ≡ 0 = search (rules, arith, mod_powers) in
            let e = last_at (n * 10 ^ c) (offset m + c) more d (no_more p) h in
            omega (arith, ints, clamps, e, offset_is m)
        | inr h ↦ high_last 65535 refl h more
      ]
]
  where
    no_more : 0 < n → (k : ℕ) → offset m + c < k → ¬ (n * 10 ^ c % 10 ^ k ≡ 0)
    no_more p k h e =
        let rest : n % 10 ^ (k - c) * 10 ^ c ≡ 0 = sym (mod_powers n c k (omega arith)) ∙ e in
        l.highest p (k - c) (omega arith) (none_left (n % 10 ^ (k - c)) (10 ^ c) (ten_pos c) rest)

    high_last : (k : ℕ) → k + 1 ≡ 65536 → 65536 ≤ offset m + c → 0 < n * 10 ^ c
        → int_min (last (n * 10 ^ c)) (pos 0) ≡ int_min (m +ℤ pos c) (pos 0)
    high_last k e h more =
        let p : 0 < n = some n c more in
        let here : n % 10 ^ (k - c) ≡ 0 = fewer n (k - c) (offset m) (omega arith) (l.divides p) in
        let d : n * 10 ^ c % 10 ^ k ≡ 0 = search (rules, arith, mod_powers) in
        let top = last_top (n * 10 ^ c) k e more d in
        omega (arith, ints, clamps, top, offset_is m)
