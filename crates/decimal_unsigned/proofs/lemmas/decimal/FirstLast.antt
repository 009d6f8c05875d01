-- Each number other than 0 has a first and a last digit.
use Rattle.std.proofs.{Common.{◌≡◌, ℕ, zero, suc, ◌+◌, ◌-◌, ◌*◌, ◌/◌, ◌%◌, ◌^◌, ◌<◌, ◌≤◌, sym, ◌∙◌, ap, subst, arith, inl, inr, ℤ, pos, ◌<ℤ◌, ◌≤ℤ◌, rules}, Math.Nat.{pow-le-pow_right, mul-le-mul_right, pow-suc, mod-lt, mul_assoc, div-add-mod', le-mul_of_pos_right, lt_of_mul-lt-mul_right, mul-add-mod_self_right, mod-le, div-le_self}, lemmas.{Bool.cases_lt, Int.ints, Nat.pow-add}}
use Rattle.decimal_digits.proofs.lemmas.{digits.{DigitLists.ten_pos, Rules.steps}, ops.Offsets.offset_is, rounding.Ends.{first_is, first_zero, last_is}}
use Rattle.decimal_digits.specs.Number.{offset, first, last, magnitude_at}

-- the first digit is at one offset and the last at another, and the number is a multiple of the weight of the latter
pub record Extent (n : ℕ) : Type 0 where
  pub top : ℕ
  pub bottom : ℕ
  pub factor : ℕ
  pub is : n ≡ factor * 10 ^ bottom
  pub odd : 0 < factor % 10
  pub reaches : 10 ^ top ≤ n
  pub below : n < 10 ^ (top + 1)
  pub limit : top < 65536

top_of : (b n : ℕ) → 0 < n → n < 10 ^ b → (k : ℕ) × (k < b) × (10 ^ k ≤ n) × (n < 10 ^ (k + 1))
top_of zero n p h = absurd (omega (arith, h))
top_of (suc b) n p h = elim (cases_lt n (10 ^ b)) [
  | inl l ↦ let r = top_of b n p l in (r.0, omega (arith, r.1), r.2, r.3)
  | inr g ↦ (b, omega arith, g, subst (λ k. n < 10 ^ k) (let e : suc b ≡ b + 1 = omega arith in e) h)
]

one_more_zero : (n q v e : ℕ) → n ≡ q * 10 → q ≡ v * 10 ^ e → n ≡ v * 10 ^ suc e
one_more_zero n q v e h k = h ∙ ap (λ x. x * 10) k ∙ mul_assoc v (10 ^ e) 10 ∙ ap (λ x. v * x) (sym (pow-suc 10 e))

bottom_of : (b n : ℕ) → 0 < n → n < 10 ^ b → (e : ℕ) × (v : ℕ) × (n ≡ v * 10 ^ e) × (0 < v % 10)
bottom_of zero n p h = absurd (omega (arith, h))
bottom_of (suc b) n p h = elim (cases_lt 0 (n % 10)) [
  | inl l ↦ (0, n, omega arith, l)
  | inr g ↦
      let few : n / 10 < 10 ^ b = omega (arith, h, pow-suc 10 b) in
      let r = bottom_of b (n / 10) (omega arith) few in
      (suc r.0, r.1, one_more_zero n (n / 10) r.1 r.0 (omega arith) r.2, r.3)
]

-- ---- each number above 0 has a first and a last digit
pub extent : (b n : ℕ) → 0 < n → n < 10 ^ b → b ≤ 65536 → Extent n
extent b n p h l =
    let t = top_of b n p h in
    let e = bottom_of b n p h in
    grind steps

module _ {n : ℕ} (e : Extent n) where
  -- the last digit is not above the first
  pub ordered : e.bottom ≤ e.top
  ordered = elim (cases_lt e.top e.bottom) [
    | inl h ↦
        let p : 10 ^ (e.top + 1) ≤ 10 ^ e.bottom = pow-le-pow_right (omega arith) (omega arith) in
        let f : 0 < e.factor = omega (arith, e.odd) in
        let q : 10 ^ e.bottom ≤ 10 ^ e.bottom * e.factor = le-mul_of_pos_right (10 ^ e.bottom) f in
        absurd (omega (arith, p, q, e.is, e.below))
    | inr h ↦ h
  ]

  -- the first digit is below the exponent of each greater power of ten
  pub top_lt : (b : ℕ) → n < 10 ^ b → e.top < b
  top_lt b h = grind (arith, pow-le-pow_right)

  -- the first digit
  pub first_of : first n ≡ magnitude_at e.top
  first_of = first_is n e.top e.reaches e.below e.limit

  -- the last digit
  pub last_of : last n ≡ magnitude_at e.bottom
  last_of = ap last e.is ∙ last_is e.factor e.bottom e.odd (omega (arith, ordered, e.limit))

-- a number that a range up to hi holds has its first digit at hi or below
pub first_le : (n : ℕ) (hi : ℤ) → n < 10 ^ (offset hi + 1) → pos 0 ≤ℤ hi → hi ≤ℤ pos 32767 → first n ≤ℤ hi
first_le n hi few low high = elim (cases_lt 0 n) [
  | inl some ↦
      let e = extent (offset hi + 1) n some few (omega (arith, ints, offset_is hi)) in
      omega (arith, ints, first_of e, top_lt e (offset hi + 1) few, offset_is hi)
  | inr none ↦ grind (arith, ints, first_zero)
]

last_digit : (x y d : ℕ) → 0 < d → (x * 10 ^ d + y) % 10 ≡ y % 10
last_digit x y zero h = absurd (omega arith)
last_digit x y (suc d) h =
    let p : x * 10 ^ suc d ≡ (x * 10 ^ d) * 10 = rw (pow-suc 10 d) (omega arith) in
    rw p (mul-add-mod_self_right (x * 10 ^ d) 10 y)

-- ---- the sum of two numbers of which the second is below the last digit of the first
module _ {m n : ℕ} (a : Extent m) (b : Extent n) (disjoint : b.top < a.bottom) where
  sum_is : m + n ≡ (a.factor * 10 ^ (a.bottom - b.bottom) + b.factor) * 10 ^ b.bottom
  sum_is =
      let k : a.bottom ≡ (a.bottom - b.bottom) + b.bottom = omega (arith, ordered b) in
      let p : m ≡ a.factor * (10 ^ (a.bottom - b.bottom) * 10 ^ b.bottom) = grind (arith, pow-add) in
      let q = b.is in
      omega (arith, p, q)

  sum_below : m + n < 10 ^ (a.top + 1)
  sum_below =
      let k : a.top + 1 ≡ (a.top + 1 - a.bottom) + a.bottom = omega (arith, ordered a) in
      let split : 10 ^ (a.top + 1) ≡ 10 ^ (a.top + 1 - a.bottom) * 10 ^ a.bottom = grind (arith, pow-add) in
      let f : a.factor < 10 ^ (a.top + 1 - a.bottom) = grind (arith, lt_of_mul-lt-mul_right) in
      let g : (a.factor + 1) * 10 ^ a.bottom ≤ 10 ^ (a.top + 1 - a.bottom) * 10 ^ a.bottom =
      mul-le-mul_right (10 ^ a.bottom) (omega arith) in
      let h : 10 ^ (b.top + 1) ≤ 10 ^ a.bottom = pow-le-pow_right (omega arith) (omega arith) in
      omega (arith, a.is, b.below, split, g, h)

  -- the sum begins with the first number
  pub first_sum : first (m + n) ≡ first m
  first_sum = first_is (m + n) a.top (omega (arith, a.reaches)) sum_below a.limit ∙ sym (first_of a)

  -- and ends with the second
  pub last_sum : last (m + n) ≡ last n
  last_sum =
      let odd : 0 < (a.factor * 10 ^ (a.bottom - b.bottom) + b.factor) % 10 =
      omega (arith, last_digit a.factor b.factor (a.bottom - b.bottom) (omega (arith, disjoint, ordered b)), b.odd) in
      ap last sum_is
      ∙ last_is (a.factor * 10 ^ (a.bottom - b.bottom) + b.factor) b.bottom odd (omega (arith, ordered b, b.limit))
      ∙ sym (last_of b)

-- ---- the part of a number at and above a place, and the part below it
module _ (n q b : ℕ) (few : n < 10 ^ b) (high : b ≤ 65536) where
  above_is : n - n % 10 ^ q ≡ n / 10 ^ q * 10 ^ q
  above_is = grind (arith, div-add-mod', mod-le)

  -- the sum of the two parts is the number
  pub parts_sum : (n - n % 10 ^ q) + n % 10 ^ q ≡ n
  parts_sum = omega (arith, mod-le n (10 ^ q))

  module _ (some : 0 < n - n % 10 ^ q) (more : 0 < n % 10 ^ q) where
    quotient_counts : 0 < n / 10 ^ q
    quotient_counts = grind (steps, above_is)

    quotient : Extent (n / 10 ^ q)
    quotient = extent b (n / 10 ^ q) quotient_counts (omega (arith, few, div-le_self n (10 ^ q))) high

    above_factor : n - n % 10 ^ q ≡ quotient.factor * 10 ^ (quotient.bottom + q)
    above_factor = above_is ∙ ap (λ x. x * 10 ^ q) quotient.is ∙ (rw (pow-add 10 quotient.bottom q) (omega arith))

    above_limit : quotient.bottom + q < 65536
    above_limit = search (rules, arith, ints, le-mul_of_pos_right, pow-le-pow_right, above_factor)

    last_above : last (n - n % 10 ^ q) ≡ magnitude_at (quotient.bottom + q)
    last_above = ap last above_factor ∙ last_is quotient.factor (quotient.bottom + q) quotient.odd above_limit

    lower : Extent (n % 10 ^ q)
    lower = extent b (n % 10 ^ q) more (omega (arith, few, mod-le n (10 ^ q))) high

    -- the lower part begins below the end of the upper one
    pub parts_apart : first (n % 10 ^ q) <ℤ last (n - n % 10 ^ q)
    parts_apart = omega (arith, ints, first_of lower, last_above, top_lt lower q (mod-lt n (ten_pos q)))
