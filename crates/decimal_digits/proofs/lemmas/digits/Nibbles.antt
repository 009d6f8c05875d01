-- The nibbles of bytes.
use Rattle.std.proofs.{Common.{◌≡◌, ℕ, zero, suc, ◌+◌, ◌*◌, ◌/◌, ◌%◌, ◌<◌, ◌⊎◌, inl, inr, List, [], ◌∷◌, length, get_or, drop, map, refl, sym, ◌∙◌, ap, arith}, Math.ListN.get_or-map, lemmas.{Bool.cases_eq, Grind.{same_number_lists, get_or_head, get_or-set_at}, List.{length-append, length-drop, length-map, length-replicate, length-set, length-take, get_or-drop, get_or-replicate, get_or-take, get_or_past, get_or-append_right, get_or-map as map_at, get_or-set_other, get_or_append_left, take_at}}}
use Rattle.std.specs.{Char.digit_value, List.refill}
use Rattle.decimal_digits.specs.{Nibbles.nibbles, Packing.length-nibbles}

-- the nibble at an even index is the high one of its byte
pub high_nibble : (bs : List ℕ) (k : ℕ) → get_or (nibbles bs) (2 * k) 0 ≡ get_or bs k 0 / 16
unfolding nibbles
high_nibble [] k = refl
high_nibble (b ∷ bs) zero = refl
high_nibble (b ∷ bs) (suc k) = let e : 2 * suc k ≡ suc (suc (2 * k)) = omega arith in rw e (high_nibble bs k)

-- the nibble at an odd index is the low one of its byte
pub low_nibble : (bs : List ℕ) (k : ℕ) → get_or (nibbles bs) (2 * k + 1) 0 ≡ get_or bs k 0 % 16
unfolding nibbles
low_nibble [] k = refl
low_nibble (b ∷ bs) zero = refl
low_nibble (b ∷ bs) (suc k) = let e : 2 * suc k + 1 ≡ suc (suc (2 * k + 1)) = omega arith in rw e (low_nibble bs k)

-- the nibble at an index; the first component is the pattern that `grind` matches
pub nibble_is : (bs : List ℕ) (k : ℕ) → (get_or (nibbles bs) k 0 ≡ get_or (nibbles bs) k 0)
    × (((2 * (k / 2) ≡ k) × (get_or (nibbles bs) k 0 ≡ get_or bs (k / 2) 0 / 16))
    ⊎ ((2 * (k / 2) + 1 ≡ k) × (get_or (nibbles bs) k 0 ≡ get_or bs (k / 2) 0 % 16)))
nibble_is bs k = (
  refl,
  elim (cases_eq (k % 2) 0) [
    | inl m ↦ let e : 2 * (k / 2) ≡ k = omega arith in
        inl (e, ap (λ j. get_or (nibbles bs) j 0) (sym e) ∙ high_nibble bs (k / 2))
    | inr m ↦ let e : 2 * (k / 2) + 1 ≡ k = omega arith in
        inr (e, ap (λ j. get_or (nibbles bs) j 0) (sym e) ∙ low_nibble bs (k / 2))
  ],
)

-- a vector that is written through its slice is that slice
pub refill_same : (xs ys : List ℕ) (n : ℕ) → length ys ≡ n → refill n xs ys ≡ ys
refill_same xs ys n e = take_at ys (drop (length ys) xs) n e

-- the low nibble at an index
pub low_at : (ds : List ℕ) (k : ℕ) → get_or (map (λ d. d % 16) ds) k 0 ≡ get_or ds k 0 % 16
low_at ds k = get_or-map (λ d. d % 16) ds k 0

-- the ASCII byte at an index
pub ascii_of : (ds : List ℕ) (k : ℕ) → k < length ds → get_or (map (λ d. 48 + d) ds) k 0 ≡ 48 + get_or ds k 0
ascii_of ds k = map_at (λ d. 48 + d) ds k 0 0

-- the digit of the ASCII byte at an index
pub value_of : (text : List ℕ) (k : ℕ) → k < length text
    → get_or (map digit_value text) k 0 ≡ digit_value (get_or text k 0)
value_of text k = map_at digit_value text k 0 0

-- for `grind`: lists of nibbles, digits and ASCII bytes, index by index
pub ruleset lengths = (length-append, length-drop, length-map, length-replicate, length-set, length-take)

pub ruleset items = (get_or-append_right, get_or-drop, get_or-replicate, get_or-set_at, get_or-set_other, get_or-take)

pub ruleset ends = (get_or_append_left, get_or_head, get_or_past, low_at, ascii_of, value_of)

pub ruleset nibble_rules = (nibble_is, length-nibbles, lengths, items, ends, same_number_lists, refill_same)
