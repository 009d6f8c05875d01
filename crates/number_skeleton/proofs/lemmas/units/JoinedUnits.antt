-- The units of an identifier, one after another.
use Rattle.std.proofs.{Common.{◌≡◌, ℕ, suc, ◌+◌, ◌-◌, ◌<◌, ◌==◌, Bool, true, false, List, length, drop, Some, None, refl, ap, ◌∙◌, arith}, lemmas.Bool.Decides.nat_tests}
use Rattle.number_skeleton.specs.Identifiers.{after_factor, joiner_length, are_units}

module _ (mixed : Bool) (n i : ℕ) (text rest : List ℕ) (inside : i < n) where
  at_first : n - i ≡ suc (n - (i + 1))
  at_first = omega arith

  pub more_units : after_factor text ≡ Some rest → (length rest == 0) ≡ false
      → (joiner_length mixed rest == 0) ≡ false
      → are_units mixed (n - i) text ≡ are_units mixed (n - (i + 1)) (drop (joiner_length mixed rest) rest)
  unfolding are_units
  more_units is some joined = ap (λ k. are_units mixed k text) at_first ∙ rw (is, some, joined) refl

  pub no_joiner : after_factor text ≡ Some rest → (length rest == 0) ≡ false → (joiner_length mixed rest == 0) ≡ true
      → are_units mixed (n - i) text ≡ false
  unfolding are_units
  no_joiner is some none = ap (λ k. are_units mixed k text) at_first ∙ rw (is, some, none) refl

  pub last_unit : after_factor text ≡ Some rest → (length rest == 0) ≡ true → are_units mixed (n - i) text ≡ true
  unfolding are_units
  last_unit is none = ap (λ k. are_units mixed k text) at_first ∙ rw (is, none) refl

  pub no_unit : after_factor text ≡ None → are_units mixed (n - i) text ≡ false
  unfolding are_units
  no_unit is = ap (λ k. are_units mixed k text) at_first ∙ rw is refl

pub no_more_units : (mixed : Bool) (text : List ℕ) → are_units mixed 0 text ≡ false
unfolding are_units
no_more_units mixed text = refl

pub not_zero : (n m : ℕ) → n ≡ m → (n ≡ 0 → ⊥) → (m == 0) ≡ false
not_zero n m same some = grind (arith, nat_tests)
