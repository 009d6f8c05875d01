-- Texts that are appended, one after another.
use Rattle.std.proofs.Common.{◌≡◌, ℕ, List, ◌++◌, ◌∙◌, ap, append_assoc}

three : (b p q r : List ℕ) → ((b ++ p) ++ q) ++ r ≡ b ++ (p ++ (q ++ r))
three b p q r = simp append_assoc

pub three_appended : (b p q r text x y z : List ℕ) → x ≡ b ++ p → y ≡ x ++ q → p ++ (q ++ r) ≡ text → z ≡ y ++ r
    → z ≡ b ++ text
three_appended b p q r text x y z first second whole third =
    third ∙ ap (λ l. l ++ r) (second ∙ ap (λ l. l ++ q) first) ∙ three b p q r ∙ ap (λ l. b ++ l) whole

five : (b p q r s t : List ℕ) → ((((b ++ p) ++ q) ++ r) ++ s) ++ t ≡ b ++ (p ++ (q ++ (r ++ (s ++ t))))
five b p q r s t = simp append_assoc

pub five_appended : (b p q r s t text v w x y z : List ℕ) → v ≡ b ++ p → w ≡ v ++ q → x ≡ w ++ r → y ≡ x ++ s
    → p ++ (q ++ (r ++ (s ++ t))) ≡ text → z ≡ y ++ t → z ≡ b ++ text
five_appended b p q r s t text v w x y z first second third fourth whole fifth =
    fifth
    ∙ ap (λ l. l ++ t)
    (fourth ∙ ap (λ l. l ++ s) (third ∙ ap (λ l. l ++ r) (second ∙ ap (λ l. l ++ q) first)))
    ∙ five b p q r s t ∙ ap (λ l. b ++ l) whole
