-- The bits of nibbles, and equal nibbles at the end of the first nibbles of a word.
use Rattle.std.proofs.{Common.{◌≡◌, ℕ, zero, suc, ◌+◌, ◌-◌, ◌*◌, ◌/◌, ◌%◌, ◌^◌, ◌<◌, ◌≤◌, get_or, replicate, inl, inr, refl, sym, ◌∙◌, ap, arith, ◌≢◌, min}, Math.Nat.{div-div-eq-div-mul, div-le_self}, lemmas.{Bool.Decides.nat_tests, Bool.cases_lt, Grind.common_steps, Int.{clamps, ints}, List.get_or-replicate, Nat.Bits.bit_at-trailing_zeros, Nat.{pow-add, and_le_l, and_le_r, shr-shr, xor_lt, xor_mod, xor_shr}}}
use Rattle.std.specs.{Int.{w64, bit_at, trailing_zeros}, Int.Bits.{bit_xor, xor_add_and, xor_self}, Int.Count.trailing_of_zero, Int.Digits.number_from_digits}
use Rattle.decimal_digits.proofs.lemmas.digits.{LeadingBytes.hex_pow, Words.{repeated_below, word_nibble, word_of_nibbles}}
use Rattle.decimal_digits.specs.Nibbles.{word_nibbles}

-- bit 4 * j + i of a number is bit i of its nibble j
bit_of : (n j i : ℕ) → bit_at n (4 * j + i) ≡ n / 16 ^ j / 2 ^ i % 2
bit_of n j i = grind (arith, pow-add, hex_pow, div-div-eq-div-mul)

-- four bits that are 0 are the nibble 0
pub clear_nibble : (n j : ℕ) → ((i : ℕ) → i < 4 → bit_at n (4 * j + i) ≡ 0) → n / 16 ^ j % 16 ≡ 0
clear_nibble n j h = grind (arith, ints, clamps, nat_tests, common_steps, bit_of)

-- a nibble with a bit is not 0
pub some_nibble : (n i : ℕ) → bit_at n i ≡ 1 → 0 < n / 16 ^ (i / 4) % 16
some_nibble n i h = go (n / 16 ^ (i / 4)) (i % 4) (omega arith) (sym (bit_of n (i / 4) (i % 4)) ∙ ap (bit_at n) at ∙ h)
  where
    at : 4 * (i / 4) + i % 4 ≡ i
    at = omega arith

    go : (x r : ℕ) → r < 4 → x / 2 ^ r % 2 ≡ 1 → 0 < x % 16
    go x zero l e = let f : x / 1 % 2 ≡ 1 = e in omega arith
    go x (suc zero) l e = let f : x / 2 % 2 ≡ 1 = e in omega arith
    go x (suc (suc zero)) l e = let f : x / 4 % 2 ≡ 1 = e in omega arith
    go x (suc (suc (suc zero))) l e = let f : x / 8 % 2 ≡ 1 = e in omega arith
    go x (suc (suc (suc (suc r)))) l e = absurd (omega arith)

-- numbers whose exclusive or is 0 are equal
zero_xor : (a b : ℕ) → bit_xor a b ≡ 0 → a ≡ b
zero_xor a b h = omega (arith, xor_add_and a b, and_le_l a b, and_le_r a b, h)

-- each nibble of sixteen equal ones
repeated : (d k : ℕ) → d < 16 → k < 16 → get_or (word_nibbles (0x1111_1111_1111_1111 * d)) k 0 ≡ d
repeated d k h l =
    let n = 0x1111_1111_1111_1111 * d in
    let is : n ≡ number_from_digits 16 (replicate 16 d) = omega arith in
    ap (λ l. get_or l k 0) (word_of_nibbles (replicate 16 d) n refl (repeated_below d 16 h) is)
    ∙ get_or-replicate 16 k d 0 l

-- the exclusive or of the first `count` nibbles of a word and of equal ones
module _ (n d count y : ℕ) (fits : n < 2 ^ 64) (digit : d < 16) (few : count ≤ 16)
    (is : y ≡ bit_xor n (0x1111_1111_1111_1111 * d) / 2 ^ (4 * (16 - count))) where
  nibble : (j k : ℕ) → j + k + 1 ≡ count → y / 16 ^ j % 16 ≡ bit_xor (get_or (word_nibbles n) k 0) d
  nibble j k e =
      let p = 0x1111_1111_1111_1111 * d in
      let s = 4 * (15 - k) in
      let at : 4 * (16 - count) + 4 * j ≡ s = omega arith in
      let left = word_nibble n k fits (omega arith) in
      let right = word_nibble p k (omega arith) (omega arith) ∙ repeated d k digit (omega arith) in
      ap (λ m. y / m % 16) (sym (hex_pow j)) ∙ ap (λ m. m / 2 ^ (4 * j) % 16) is
      ∙ ap (λ m. m % 16) (shr-shr (bit_xor n p) (4 * (16 - count)) (4 * j) ∙ ap (λ m. bit_xor n p / 2 ^ m) at
      ∙ xor_shr n p s)
      ∙ xor_mod (n / 2 ^ s) (p / 2 ^ s) 4 ∙ (λ i. bit_xor (left i) (right i))

  -- its lowest bit is in the last nibble that is another
  pub trailing : (r : ℕ) → r ≡ min (trailing_zeros w64 y / 4) count
      → ((k : ℕ) → count ≤ k + r → k < count → get_or (word_nibbles n) k 0 ≡ d)
      × (r < count → get_or (word_nibbles n) (count - r - 1) 0 ≢ d)
  trailing r least = elim (cases_lt 0 y) [
    | inl some ↦
        let x = bit_xor n (0x1111_1111_1111_1111 * d) in
        let below : y < 2 ^ 64 =
        omega (arith, xor_lt 64 n (0x1111_1111_1111_1111 * d) fits (omega arith), div-le_self, is) in
        let low = bit_at-trailing_zeros w64 y some below in (
          λ k h l. equal k l (clear_nibble y (count - 1 - k) (λ i m. low.2 (4 * (count - 1 - k) + i) (omega arith))),
          λ h same.
              let at : trailing_zeros w64 y / 4 ≡ r = omega arith in
              let other = rw at at (some_nibble y (trailing_zeros w64 y) low.1) in
              let none = nibble r (count - r - 1) (omega arith) ∙ ap (λ m. bit_xor m d) same ∙ xor_self d in
              omega (arith, other, none),
        )
    | inr none ↦
        let z : y ≡ 0 = omega arith in
        let all : trailing_zeros w64 y ≡ 64 = ap (trailing_zeros w64) z ∙ trailing_of_zero 64 in (
          λ k h l. equal k l (omega (arith, z)),
          λ h same. omega (arith, all),
        )
  ]
    where
      equal : (k : ℕ) → k < count → y / 16 ^ (count - 1 - k) % 16 ≡ 0 → get_or (word_nibbles n) k 0 ≡ d
      equal k l z = zero_xor _ d (sym (nibble (count - 1 - k) k (omega arith)) ∙ z)
