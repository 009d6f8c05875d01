-- Where a text is split at a letter.
use Rattle.std.proofs.{Common.{◌≡◌, ◌==◌, ℕ, false, List, [], ◌∷◌, ◌++◌, refl, arith, Some, None}, lemmas.Bool.Decides.nat_tests}
use Rattle.std.specs.List.{list_any}
use Rattle.fixed_decimal.specs.Split.{split_once}

module _ (letter : ℕ) where
  -- a text without the letter is not split
  pub split_none : (text : List ℕ) → list_any (λ c. c == letter) text ≡ false → split_once letter text ≡ None
  unfolding split_once
  split_none [] h = refl
  split_none (c ∷ text) h = grind (arith, split_none text)

  -- a text is split at the first occurrence of the letter
  pub split_at : (front suffix : List ℕ) → list_any (λ c. c == letter) front ≡ false
      → split_once letter (front ++ letter ∷ suffix) ≡ Some (front, suffix)
  unfolding split_once
  split_at [] suffix h = grind (arith, nat_tests)
  split_at (c ∷ front) suffix h = grind (arith, split_at front suffix)

  -- the parts concatenate to the text
  pub split_parts : (text : List ℕ) (parts : List ℕ × List ℕ) → split_once letter text ≡ Some parts
      → text ≡ parts.0 ++ letter ∷ parts.1
  unfolding split_once
  split_parts [] parts h = absurd (cc)
  split_parts (c ∷ text) parts h = grind (arith, nat_tests, split_parts text)
