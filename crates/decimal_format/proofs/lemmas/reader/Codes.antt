-- Codes of which none is a prefix of another one.
use Rattle.std.proofs.{Common.{◌≡◌, ◌≢◌, ℕ, ◌<◌, ◌⊎◌, inl, inr, true, List, [], ◌∷◌, ◌++◌, nat_lt, refl, sym, ◌∙◌, ap, arith, rules}, lemmas.List.append_cancel_left}
use Rattle.std.specs.Prelude.{Option, MatchOption}
use Rattle.decimal_format.specs.{Symbols.{Symbols, digit_text}, Readable.{BeginsWith, code, IsReadable}}

-- of two prefixes of one text, one is a prefix of the other
pub meet : (a b r t : List ℕ) → a ++ r ≡ b ++ t → BeginsWith b a ⊎ BeginsWith a b
meet [] b r t e = inl (b, refl)
meet (x ∷ a) [] r t e = inr (x ∷ a, refl)
meet (x ∷ a) (y ∷ b) r t e = grind (arith, meet a b r t)

-- a fact for each case follows from another
pub match_weaker : {A : Type 0} (o : Option A) (P Q : Type 0) (R S : A → Type 0) → (P → Q) → ((x : A) → R x → S x)
    → MatchOption o P R → MatchOption o Q S
match_weaker o P Q R S f g m = grind (arith, f, g, m)

module _ (s : Symbols) (readable : IsReadable s) where
  -- no text begins with two codes
  pub apart : (j k : ℕ) → j < 14 → k < 14 → (r t : List ℕ) → code s j ++ r ≡ code s k ++ t → j ≡ k
  apart j k p q r t e = elim (meet (code s j) (code s k) r t e) [
    | inl begins ↦ readable.apart j p k q begins
    | inr begins ↦ sym (readable.apart k q j p begins)
  ]

  -- the code of a digit
  pub digit_code : (d : ℕ) → d < 10 → code s d ≡ digit_text s d
  digit_code d h = let t : nat_lt d 10 ≡ true = search (rules, arith) in rw t refl

  pub same_digit : (d e : ℕ) (r t : List ℕ) → d < 10 → e < 10 → digit_text s d ++ r ≡ digit_text s e ++ t → (d
      ≡ e) × (r ≡ t)
  same_digit d e r t p q h =
      let same : d ≡ e =
      apart d e (omega arith) (omega arith) r t
      (ap (λ l. l ++ r) (digit_code d p) ∙ h ∙ ap (λ l. l ++ t) (sym (digit_code e q))) in
      (same, append_cancel_left (digit_text s d) r t (h ∙ ap (λ x. digit_text s x ++ t) (sym same)))

  -- no text begins with a code and with a later one
  pub not_later : (j k : ℕ) → j < k → k < 14 → (r t : List ℕ) → code s j ++ r ≢ code s k ++ t
  not_later j k p q r t h = let same = apart j k (omega arith) q r t h in absurd (omega (arith, same, p))

  pub digit_not_decimal : (d : ℕ) (r t : List ℕ) → d < 10 → digit_text s d ++ r ≢ s.decimal ++ t
  digit_not_decimal d r t p h = not_later d 10 p (omega arith) r t (ap (λ l. l ++ r) (digit_code d p) ∙ h)

  pub digit_not_grouping : (d : ℕ) (r t : List ℕ) → d < 10 → digit_text s d ++ r ≢ s.grouping ++ t
  digit_not_grouping d r t p h = not_later d 11 (omega arith) (omega arith) r t (ap (λ l. l ++ r) (digit_code d p) ∙ h)

  pub digit_not_minus : (d : ℕ) (r t : List ℕ) → d < 10 → digit_text s d ++ r ≢ s.minus.prefix ++ t
  digit_not_minus d r t p h = not_later d 12 (omega arith) (omega arith) r t (ap (λ l. l ++ r) (digit_code d p) ∙ h)

  pub digit_not_plus : (d : ℕ) (r t : List ℕ) → d < 10 → digit_text s d ++ r ≢ s.plus.prefix ++ t
  digit_not_plus d r t p h = not_later d 13 (omega arith) (omega arith) r t (ap (λ l. l ++ r) (digit_code d p) ∙ h)

  pub plus_not_minus : (r t : List ℕ) → s.plus.prefix ++ r ≢ s.minus.prefix ++ t
  plus_not_minus r t h = not_later 12 13 (omega arith) (omega arith) t r (sym h)

  pub decimal_not_grouping : (r t : List ℕ) → s.decimal ++ r ≢ s.grouping ++ t
  decimal_not_grouping r t h = not_later 10 11 (omega arith) (omega arith) r t h

  -- no code is empty
  pub none_not_code : (k j : ℕ) (t : List ℕ) → k < 14 → j < 14 → ¬ (k ≡ j) → [] ≢ code s k ++ t
  none_not_code k j t p q other h = go (code s k) refl h
    where
      go : (c : List ℕ) → c ≡ code s k → [] ≡ c ++ t → ⊥
      go [] e h = other (readable.apart k p j q (code s j, ap (λ l. l ++ code s j) e))
      go (x ∷ c) e h = cc

  pub none_not_grouping : (t : List ℕ) → [] ≢ s.grouping ++ t
  none_not_grouping t h = none_not_code 11 10 t (omega arith) (omega arith) (λ e. omega (arith, e)) h

  pub none_not_decimal : (t : List ℕ) → [] ≢ s.decimal ++ t
  none_not_decimal t h = none_not_code 10 11 t (omega arith) (omega arith) (λ e. omega (arith, e)) h

  pub none_not_digit : (d : ℕ) (t : List ℕ) → d < 10 → [] ≢ digit_text s d ++ t
  none_not_digit d t p h =
      none_not_code d 10 t (omega arith) (omega arith) (λ e. omega (arith, e, p))
      (h ∙ ap (λ l. l ++ t) (sym (digit_code d p)))
