use Rattle.std.proofs.{Common.{◌≡◌, ℕ, zero, suc, ◌+◌, ◌<◌, List, [], ◌∷◌, ◌++◌, take, drop, refl, arith, slice_index, slice_index_or}, lemmas.Grind.common_steps}
use Rattle.decimal_digits.specs.{Digits.text_of, Nibbles.{nibbles, word_nibbles}}
use lib.Dec.{eqb, ltb, leb}
use lib.Lanes.{top}
use mathlib.Core.Bool.{cond}
use Rattle.decimal_digits.proofs.digits.packed.dotted.dotted_text.Goals as goal

-- P of each number below n, so that each can be computed
all : (P : ℕ → Type 0) → ℕ → Type 0
all P zero = Unit
all P (suc n) = P 0 × all (λ k. P (suc k)) n

pick : (P : ℕ → Type 0) (n k : ℕ) → all P n → k < n → P k
unfolding all
pick P zero k h l = absurd (omega arith)
pick P (suc n) zero h l = h.0
pick P (suc n) (suc k) h l = pick (λ k. P (suc k)) n k h.1 (omega arith)

-- ---- The vector: a lane of a comparison is 255 or 0.
abbrev greatest : ℕ → ℕ → ℕ
greatest p dot = cond (top 7 (cond (ltb p dot) 255 0)) dot p

-- the least of a place, and of the greatest of the previous one and that of the decimal point
abbrev from : ℕ → ℕ → ℕ → ℕ
from k p dot = cond (top 7 (cond (ltb k (greatest p dot)) 255 0)) k (greatest p dot)

abbrev moved : List ℕ → ℕ → ℕ → ℕ → ℕ
moved ds dot k p = cond (leb 128 (from k p dot)) 0 (slice_index ds (0 + from k p dot))

-- the byte at place k, of which p is the previous one
abbrev lane : List ℕ → ℕ → ℕ → ℕ → ℕ
lane ds dot k p = cond (top 7 (cond (eqb k dot) 255 0)) 46 (moved ds dot k p)

-- the bytes, of which `last` is the last
abbrev bytes : List ℕ → ℕ → ℕ → List ℕ
bytes ds dot last =
    lane ds dot 0 0 ∷ (lane ds dot 1 0 ∷ (lane ds dot 2 1 ∷ (lane ds dot 3 2 ∷ (lane ds dot 4 3 ∷ (lane ds dot 5 4
    ∷ (lane ds dot 6 5 ∷ (lane ds dot 7 6 ∷ (lane ds dot 8 7 ∷ (lane ds dot 9 8 ∷ (lane ds dot 10 9
    ∷ (lane ds dot 11 10 ∷ (lane ds dot 12 11 ∷ (lane ds dot 13 12 ∷ (lane ds dot 14 13 ∷ (lane ds dot 15 14
    ∷ (last ∷ []))))))))))))))))

abbrev dotted : List ℕ → ℕ → List ℕ
dotted ns dot = text_of (take dot ns) ++ 46 ∷ text_of (drop dot ns)

-- ---- For each place of the decimal point the bytes are the digits around it.
before_last : (n last dot : ℕ) → dot < 16
    → let ns = word_nibbles n in bytes (text_of ns) dot (slice_index_or (text_of ns) 15 last) ≡ dotted ns dot
unfolding all nibbles word_nibbles
before_last n last dot h =
    let ns = word_nibbles n in
    let P : ℕ → Type 0 = λ k. bytes (text_of ns) k (slice_index_or (text_of ns) 15 last) ≡ dotted ns k in
    let back : all (λ k. P (suc (suc (suc (suc (suc (suc (suc (suc k))))))))) 8 =
    (refl, (refl, (refl, (refl, (refl, (refl, (refl, (refl, tt)))))))) in
    pick P 16 dot (refl, (refl, (refl, (refl, (refl, (refl, (refl, (refl, back)))))))) h

after_all : (n : ℕ) → let ns = word_nibbles n in bytes (text_of ns) 16 46 ≡ dotted ns 16
unfolding nibbles word_nibbles
after_all n = refl

-- the same of digits that are equal to those
pointed : (n : ℕ) (ds : List ℕ) → ds ≡ text_of (word_nibbles n) → (last : ℕ) → last ≡ slice_index_or ds 15 last
    → (dot : ℕ) → dot < 16 → bytes ds dot last ≡ dotted (word_nibbles n) dot
pointed n ds e last at dot h = rw at (rw e (before_last n last dot h))

pointed_last : (n : ℕ) (ds : List ℕ) → ds ≡ text_of (word_nibbles n) → (dot : ℕ) → dot ≡ 16
    → bytes ds dot 46 ≡ dotted (word_nibbles n) dot
pointed_last n ds e dot is = rw (is, e) (after_all n)

pub returns-then-dot-lt16 : goal.returns-then-dot-lt16
returns-then-dot-lt16 c = grind (arith, pointed, common_steps)

pub returns-else-dot-lt16 : goal.returns-else-dot-lt16
returns-else-dot-lt16 c = grind (arith, pointed_last, common_steps)
