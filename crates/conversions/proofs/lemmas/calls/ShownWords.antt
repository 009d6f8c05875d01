-- The characters that an error line shows of a word, one by one.
use Rattle.std.proofs.{Common.{◌≡◌, ℕ, ◌+◌, ◌-◌, ◌<◌, ◌≤◌, List, [], ◌∷◌, ◌++◌, length, drop, get_or, refl, sym, ap, ◌∙◌, arith, append_assoc, length-append}, lemmas.{Bool.{le-leb, lt-leb}, List.{append-nil, at_drop_more, at_drop_all}}}
use Rattle.conversions.specs.ShownWord.{shown_bytes, fitting}

-- if nothing of these fits, that is all
ends : (bytes cs all : List ℕ) → bytes ++ fitting (40 - length bytes) cs ≡ all
    → fitting (40 - length bytes) cs ≡ [] → bytes ≡ all
ends bytes cs all is none = sym (append-nil bytes) ∙ ap (λ rest. bytes ++ rest) (sym none) ∙ is

module _ (cs bytes : List ℕ) (n : ℕ) where
  -- there is no other character
  pub shown_whole : (all : List ℕ) → length cs ≤ n → bytes ++ fitting (40 - length bytes) (drop n cs) ≡ all
      → bytes ≡ all
  shown_whole all l is = ends bytes (drop n cs) all is (at_drop_all (fitting (40 - length bytes)) cs n l)

  module _ (c : ℕ) (next : (n < length cs) × (c ≡ get_or cs n c)) where
    step : (room : ℕ) → fitting room (drop n cs) ≡ fitting room (c ∷ drop (n + 1) cs)
    step room =
        at_drop_more (fitting room) cs n c next.0 ∙ ap (λ x. fitting room (x ∷ drop (n + 1) cs)) (sym next.1)

    -- the next one does not fit
    pub shown_cut : (all : List ℕ) → length bytes ≤ 40 → (length bytes + length (shown_bytes c) ≤ 40 → ⊥)
        → bytes ++ fitting (40 - length bytes) (drop n cs) ≡ all → bytes ≡ all
    shown_cut all room over is =
        let beyond : 40 - length bytes < length (shown_bytes c) = omega (arith, over) in
        let none : fitting (40 - length bytes) (drop n cs) ≡ [] =
        step (40 - length bytes) ∙ rw (lt-leb (length (shown_bytes c)) (40 - length bytes) beyond) refl in
        ends bytes (drop n cs) all is none

    -- it fits
    pub shown_more : length bytes + length (shown_bytes c) ≤ 40
        → (bytes ++ shown_bytes c)
        ++ fitting (40 - length (bytes ++ shown_bytes c)) (drop (n + 1) cs)
        ≡ bytes ++ fitting (40 - length bytes) (drop n cs)
    shown_more l =
        let room : length (shown_bytes c) ≤ 40 - length bytes = omega (arith, l) in
        let left : 40 - length (bytes ++ shown_bytes c) ≡ 40 - length bytes - length (shown_bytes c) =
        omega (arith, length-append bytes (shown_bytes c)) in
        let fits : fitting (40 - length bytes) (drop n cs)
        ≡ shown_bytes c ++ fitting (40 - length bytes - length (shown_bytes c)) (drop (n + 1) cs) =
        step (40 - length bytes) ∙ rw (le-leb (length (shown_bytes c)) (40 - length bytes) room) refl in
        rw (left, fits) (append_assoc bytes (shown_bytes c) _)
