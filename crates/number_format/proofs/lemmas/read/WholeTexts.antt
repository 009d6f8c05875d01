-- Texts without a digit.
use Rattle.std.proofs.{Common.{◌≡◌, ◌≢◌, ℕ, ◌<◌, ◌≤◌, ◌-◌, Bool, true, false, List, [], ◌∷◌, ◌++◌, length, take, drop, rules, refl, sym, ◌∙◌, ap, subst, arith}, lemmas.List.take_all}
use Rattle.std.specs.Prelude.{◌↔◌, IsTrue, nat_lt, not}
use Rattle.decimal_format.specs.{Readable.{code, BeginsWithDigit}, Symbols.{Symbols, digit_text}}
use Rattle.number_format.specs.CompactReading.{HasNoDigit}

-- ---- A test that is negated.

pub is_on : (b : Bool) → not b ≡ false → b ≡ true
is_on true e = refl
is_on false e = absurd (cc)

pub is_off : (b : Bool) → not b ≡ true → b ≡ false
is_off true e = absurd (cc)
is_off false e = refl

-- ---- Digits.

module _ (s : Symbols) where
  digit_code : (d : ℕ) → d < 10 → code s d ≡ digit_text s d
  digit_code d h = let t : nat_lt d 10 ≡ true = search (rules, arith) in rw t refl

  pub none_begins : (text : List ℕ) → ((k : ℕ) → k < 10 → (rest : List ℕ) → text ≢ code s k ++ rest)
      → ¬ BeginsWithDigit s text
  none_begins text none begins =
      none begins.digit begins.is_digit begins.following
      (begins.is ∙ ap (λ t. t ++ begins.following) (sym (digit_code begins.digit begins.is_digit)))

  more_text : (x : ℕ) (text : List ℕ) (b : Bool) → ¬ BeginsWithDigit s (x ∷ text) → IsTrue b ↔ HasNoDigit s text
      → IsTrue b ↔ HasNoDigit s (x ∷ text)
  more_text x text b none rest = (λ t. by (rest.0 t), λ has. rest.1 (λ a c e. has (x ∷ a) c (ap (λ t. x ∷ t) e)))
    where
      by : HasNoDigit s text → HasNoDigit s (x ∷ text)
      by more [] c e begins = none (subst (BeginsWithDigit s) (sym e) begins)
      by more (y ∷ a) c e begins = let tail : text ≡ a ++ c = cc in more a c tail begins

  pub no_digit_more : (text : List ℕ) (b : Bool) → 1 ≤ length text → ¬ BeginsWithDigit s text
      → IsTrue b ↔ HasNoDigit s (take (length text - 1) (drop 1 text)) → IsTrue b ↔ HasNoDigit s text
  no_digit_more [] b some none rest = absurd (omega (arith, some))
  no_digit_more (x ∷ text) b some none rest =
      let count : length (x ∷ text) - 1 ≡ length text = omega arith in
      let all = ap (λ n. take n text) count ∙ take_all (length text) text (omega arith) in
      more_text x text b none (subst (λ t. IsTrue b ↔ HasNoDigit s t) all rest)
