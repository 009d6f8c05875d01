-- The digits that packed bytes hold.
use Rattle.std.proofs.{Common.{◌≡◌, ℕ, zero, suc, ◌+◌, ◌*◌, ◌/◌, ◌%◌, ◌<◌, ◌≤◌, List, [], ◌++◌, length, get_or, take, drop, replicate, inl, inr, refl, sym, ◌∙◌, ap, arith, All, max}, lemmas.{Bool.cases_lt, Grind.same_number_lists, List.{get_or_default, get_or_past, get_or-take}}}
use Rattle.decimal_digits.proofs.lemmas.digits.{Nibbles.{nibble_rules, high_nibble, low_nibble}, Rules.steps}
use Rattle.decimal_digits.specs.{Nibbles.{digits_in, nibbles, IsPacked}, Packing.{Encodes, EncodesPadded, IsPadded, padding, length_digits}}

-- the first nibbles of the bytes are these digits, and an unused nibble is 0
pub record Fills (bytes ds : List ℕ) (len : ℕ) : Type 0 where
  pub many : length ds ≡ len
  pub same : (k : ℕ) → k < len → get_or (nibbles bytes) k 0 ≡ get_or ds k 0
  pub decimal : (k : ℕ) → k < len → get_or ds k 0 < 10
  pub unused : len % 2 ≡ 1 → get_or (nibbles bytes) len 0 ≡ 0

fills : (bytes ds : List ℕ) (len : ℕ) → length ds ≡ len → len ≤ 2 * length bytes
    → ((k : ℕ) → k < len → get_or (nibbles bytes) k 0 ≡ get_or ds k 0) → ((k : ℕ) → k < len → get_or ds k 0 < 10)
    → (digits_in bytes len ≡ ds) × All (λ d. d < 10) (digits_in bytes len)
fills bytes ds len many h same decimal = grind (arith, same_number_lists, nibble_rules, get_or_default)

-- bytes that these digits fill
pub encodes : (bytes ds : List ℕ) (len : ℕ) → Fills bytes ds len × (2 * length bytes ≡ len + len % 2)
    → Encodes bytes len ds
encodes bytes ds len (p, count) = grind (arith, fills)

-- bytes of which these digits are the first nibbles, and the others are 0
pub pads : (bytes ds : List ℕ) (len : ℕ) → length bytes ≡ max 8 ((len + 1) / 2) → length ds ≡ len
    → ((k : ℕ) → get_or (nibbles bytes) k 0 ≡ get_or ds k 0) → ((k : ℕ) → k < len → get_or ds k 0 < 10)
    → EncodesPadded bytes len ds
pads bytes ds len count many same decimal = grind (arith, fills, get_or_past)

-- sixteen digits or more need no padding
pub encodes_many : (bytes ds : List ℕ) (len : ℕ) → 16 ≤ len → Encodes bytes len ds → EncodesPadded bytes len ds
encodes_many bytes ds len many e = grind (arith, nibble_rules)

-- the nibbles of zero bytes are 0
zero_nibbles : (n k : ℕ) → get_or (nibbles (replicate n 0)) k 0 ≡ 0
unfolding nibbles
zero_nibbles zero k = refl
zero_nibbles (suc n) zero = refl
zero_nibbles (suc n) (suc zero) = refl
zero_nibbles (suc n) (suc (suc k)) = zero_nibbles n k

-- eight zero bytes hold no digits
pub no_digits : IsPadded (replicate 8 0) 0
no_digits = (pads (replicate 8 0) [] 0 refl refl (zero_nibbles 8) (λ k h. absurd (omega arith))).padded

-- the digit at an index, with zeros after the last one
pub digit_at : (bytes : List ℕ) (len : ℕ) → IsPadded bytes len → (k : ℕ)
    → get_or (digits_in bytes len) k 0 ≡ get_or (nibbles bytes) k 0
digit_at bytes len p k = grind (steps, cases_lt, get_or-take, get_or_past)

-- the digits are 0 to 9
pub digit_lt : (bytes : List ℕ) (len : ℕ) → IsPadded bytes len → (k : ℕ) → get_or (nibbles bytes) k 0 < 10
digit_lt bytes len p k = elim (cases_lt k len) [
  | inl l ↦ grind (arith, p.decimal k 0, length_digits bytes len p, digit_at bytes len p k)
  | inr l ↦ omega (arith, p.zeros k l)
]

-- for `grind`: the digit at any index
pub ruleset digit_rules = (digit_at, digit_lt)

-- the bytes of the digits are packed
pub front_packed : (bs : List ℕ) (len : ℕ) → IsPadded bs len → IsPacked (take ((len + 1) / 2) bs) len
front_packed bs len p = (encodes _ (digits_in bs len) len (grind (arith, nibble_rules, padding))).packed

-- and hold the same digits
pub front_digits : (bs : List ℕ) (len : ℕ) → digits_in (take ((len + 1) / 2) bs) len ≡ digits_in bs len
front_digits bs len = same_number_lists _ _ (grind (arith, nibble_rules)) (λ k h. grind (arith, nibble_rules))

-- for `grind`: bytes that hold digits
pub ruleset packing = (padding, front_packed, front_digits, nibble_rules)

-- padded bytes of the same digits are the same
pub same_bytes : (bs : List ℕ) (len : ℕ) → IsPadded bs len → (cs : List ℕ) (n : ℕ) → IsPadded cs n → len ≡ n
    → digits_in bs len ≡ digits_in cs n → bs ≡ cs
same_bytes bs len p cs n q k e =
    let same = λ (k : ℕ). sym (digit_at bs len p k) ∙ ap (λ l. get_or l k 0) e ∙ digit_at cs n q k in
    same_number_lists _ _ (omega (arith, p.count, q.count)) (λ i h.
    grind (arith, same (2 * i), same (2 * i + 1), high_nibble bs i, high_nibble cs i, low_nibble bs i, low_nibble cs i))

-- the item at an index after the first ones, with zeros after the last one
pub rest_at : (xs : List ℕ) (n z k i : ℕ) → n + k ≡ i → get_or (drop n xs ++ replicate z 0) k 0 ≡ get_or xs i 0
rest_at xs n z k i e = grind (arith, cases_lt, nibble_rules)
