-- The number that packed BCD digits write, computed by joining neighboring lanes of a word: digits to pairs, pairs to
-- fours, and so on. A lane of w bits holds a number below c.
use Rattle.std.proofs.{Common.{◌≡◌, ℕ, zero, suc, ◌+◌, ◌-◌, ◌*◌, ◌/◌, ◌%◌, ◌^◌, ◌<◌, ◌≤◌, List, length, get_or, take, refl, sym, ◌∙◌, ap, arith, bit_and}, Math.Nat.{zero-div, zero-mod}, lemmas.{Int.Digits.number_more, List.Elements.All-from_recursion, List.take_all, Nat.{mod-mul-add, and_block, and_mask, and_le_r, div-mul-add}}}
use Rattle.std.specs.Int.Digits.{number_from_digits, AllBelowBase}
use Rattle.decimal_digits.proofs.lemmas.digits.Rules.{steps}

-- the number that the lowest k lanes of n write in base c
unfoldable pub value : ℕ → ℕ → ℕ → ℕ → ℕ
value b c zero n = 0
value b c (suc k) n = value b c k (n / b) * c + n % b

-- each two of the lowest 2 * k lanes, joined to one of twice the width
unfoldable pub joined : ℕ → ℕ → ℕ → ℕ → ℕ
joined w c zero n = 0
joined w c (suc k) n = joined w c k (n / 2 ^ w / 2 ^ w) * 2 ^ (w + w) + (n / 2 ^ w % 2 ^ w * c + n % 2 ^ w)

-- the lower one of each two lanes
lower : ℕ → ℕ → ℕ → ℕ
lower w zero n = 0
lower w (suc k) n = lower w k (n / 2 ^ w / 2 ^ w) * 2 ^ (w + w) + n % 2 ^ w

-- the bits of the lower lanes
unfoldable pub mask : ℕ → ℕ → ℕ
mask w zero = 0
mask w (suc k) = mask w k * 2 ^ (w + w) + (2 ^ w - 1)

-- all numbers of 2 * k lanes are below it
unfoldable pub top : ℕ → ℕ → ℕ
top w zero = 1
top w (suc k) = top w k * 2 ^ (w + w)

-- arithmetic that `omega` does where w and c are numerals
pub record Lanes (w c : ℕ) : Type 0 where
  pub parts : (n : ℕ) → n / 2 ^ w / 2 ^ w * 2 ^ (w + w) + n % 2 ^ (w + w) ≡ n
  pub low : (n : ℕ) → n % 2 ^ (w + w) % 2 ^ w ≡ n % 2 ^ w
  pub rest : (n : ℕ) → n % 2 ^ (w + w) < 2 ^ (w + w)
  pub ones : 2 ^ w - 1 < 2 ^ (w + w)
  pub down : (n t : ℕ) → n < t * 2 ^ (w + w) → n / 2 ^ w / 2 ^ w < t
  pub step : (n j e : ℕ) → j + (2 ^ w - c) * e ≡ n / 2 ^ w / 2 ^ w
      → (j * 2 ^ (w + w) + (n / 2 ^ w % 2 ^ w * c + n % 2 ^ w))
      + (2 ^ w - c) * (e * 2 ^ (w + w) + n / 2 ^ w % 2 ^ w) ≡ n
  pub fits : (n : ℕ) → n / 2 ^ w % 2 ^ w * c + n % 2 ^ w < 2 ^ (w + w)

module _ {w c : ℕ} (l : Lanes w c) where
  -- a mask keeps the lower lanes
  masked : (k n : ℕ) → bit_and n (mask w k) ≡ lower w k n
  unfolding mask lower
  masked zero n = omega (arith, and_le_r n 0)
  masked (suc k) n =
      ap (λ m. bit_and m (mask w (suc k))) (sym (l.parts n))
      ∙ and_block (w + w) (n / 2 ^ w / 2 ^ w) (mask w k) (n % 2 ^ (w + w)) (2 ^ w - 1) (l.rest n) l.ones
      ∙ (λ i. masked k (n / 2 ^ w / 2 ^ w) i * 2 ^ (w + w) + and_mask (n % 2 ^ (w + w)) w i)
      ∙ ap (λ r. lower w k (n / 2 ^ w / 2 ^ w) * 2 ^ (w + w) + r) (l.low n)

  -- joining takes 2 ^ w - c from n for each unit of an upper lane
  kept_lower : (k n : ℕ) → n < top w k → joined w c k n + (2 ^ w - c) * lower w k (n / 2 ^ w) ≡ n
  unfolding joined lower top
  kept_lower zero n h = omega arith
  kept_lower (suc k) n h = l.step n _ _ (kept_lower k (n / 2 ^ w / 2 ^ w) (l.down n (top w k) h))

  kept : (k n : ℕ) → n < top w k → joined w c k n + (2 ^ w - c) * bit_and (n / 2 ^ w) (mask w k) ≡ n
  kept k n h = ap (λ e. joined w c k n + (2 ^ w - c) * e) (masked k (n / 2 ^ w)) ∙ kept_lower k n h

  -- and keeps the number that the lanes write
  pub value_joined : (k n : ℕ) → value (2 ^ (w + w)) (c * c) k (joined w c k n) ≡ value (2 ^ w) c (k + k) n
  unfolding value joined
  value_joined zero n = refl
  value_joined (suc k) n =
      let m = n / 2 ^ w / 2 ^ w in
      let j = joined w c k m in
      let lane = n / 2 ^ w % 2 ^ w * c + n % 2 ^ w in
      let upper = div-mul-add j (2 ^ (w + w)) lane (l.fits n) in
      let lowest = mod-mul-add j (2 ^ (w + w)) lane (l.fits n) in
      let two : suc k + suc k ≡ suc (suc (k + k)) = omega arith in
      rw (upper, lowest, two, value_joined k m) (omega arith)

lanes : Lanes 4 10
lanes = grind steps

pair_lanes : Lanes 8 100
pair_lanes = grind steps

four_lanes : Lanes 16 10000
four_lanes = grind steps

-- ---- the digits of a list
-- no digits write 0
value_none : (b c k : ℕ) → value b c k 0 ≡ 0
unfolding value
value_none b c zero = refl
value_none b c (suc k) = rw (zero-div b, zero-mod b, value_none b c k) (omega arith)

-- the digits up to one
pub value_front : (b c : ℕ) (ds : List ℕ) → AllBelowBase b ds → (i k : ℕ) → i ≤ length ds → i ≤ k
    → value b c k (number_from_digits b (take i ds)) ≡ number_from_digits c (take i ds)
unfolding value
value_front b c ds h zero k l m = value_none b c k
value_front b c ds h (suc i) zero l m = absurd (omega arith)
value_front b c ds h (suc i) (suc k) l m =
    let d = get_or ds i 0 in
    let n = number_from_digits b (take i ds) in
    let below : d < b = All-from_recursion (λ x. x < b) ds h i 0 l in
    let one : suc i ≡ i + 1 = omega arith in
    rw (
      one,
      number_more b ds i l,
      number_more c ds i l,
      div-mul-add n b d below,
      mod-mul-add n b d below,
      value_front b c ds h i k (omega arith) (omega arith),
    ) refl

-- ---- the four steps
module _ {w c : ℕ} (l : Lanes w c) (k n m : ℕ) (h : n < top w k) (is : m ≡ mask w k) where
  -- a step, with the mask as a numeral
  pub stepped : n - (2 ^ w - c) * bit_and (n / 2 ^ w) m ≡ joined w c k n
  stepped = omega (arith, kept l k n h, ap (λ x. (2 ^ w - c) * bit_and (n / 2 ^ w) x) is)

module _ (n : ℕ) (h : n < 2 ^ 64) where
  abbrev pub pairs : ℕ
  pairs = n - 6 * bit_and (n / 2 ^ 4) 0x0f0f_0f0f_0f0f_0f0f

  abbrev pub fours : ℕ
  fours = pairs - 156 * bit_and (pairs / 2 ^ 8) 0x00ff_00ff_00ff_00ff

  abbrev pub eights : ℕ
  eights = fours - 55536 * bit_and (fours / 2 ^ 16) 0x0000_ffff_0000_ffff

  abbrev pub all : ℕ
  all = eights - 4194967296 * (eights / 2 ^ 32)

  -- they leave the number that the sixteen nibbles write in base 10
  result : all ≡ value 16 10 16 n
  unfolding value mask top
  result =
      let a : pairs ≡ joined 4 10 8 n = stepped lanes 8 n 0x0f0f_0f0f_0f0f_0f0f h refl in
      let b : fours ≡ joined 8 100 4 pairs = stepped pair_lanes 4 pairs 0x00ff_00ff_00ff_00ff (omega arith) refl in
      let e : eights ≡ joined 16 10000 2 fours = stepped four_lanes 2 fours 0x0000_ffff_0000_ffff (omega arith) refl in
      let last : all ≡ value (2 ^ 32) (10 ^ 8) 2 eights = omega arith in
      last ∙ ap (value (2 ^ 32) (10 ^ 8) 2) e ∙ value_joined four_lanes 2 fours
      ∙ ap (value (2 ^ 16) (10 ^ 4) 4) b ∙ value_joined pair_lanes 4 pairs
      ∙ ap (value (2 ^ 8) (10 ^ 2) 8) a ∙ value_joined lanes 8 n

  -- the number in base 10 of the digits that write n in base 16
  pub joined_all : (ds : List ℕ) → AllBelowBase 16 ds → length ds ≤ 16 → n ≡ number_from_digits 16 ds
      → all ≡ number_from_digits 10 ds
  joined_all ds b few is =
      let whole = take_all (length ds) ds (omega arith) in
      grind (arith, result, value_front)
