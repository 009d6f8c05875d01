-- Texts of which none begins with another one, by computation.
use Rattle.std.proofs.{Common.{◌≡◌, ℕ, ◌<◌, ◌==◌, ◌&&◌, ◌||◌, not, zero, suc, nat_eq, Bool, true, false, List, refl, arith, rules}, lemmas.{Bool.Decides.{nat_tests, Decides-eqb, Decides-below_and}, Slice.Eq.starts_is}}
use Rattle.std.specs.List.{starts_with}
use Rattle.decimal_format.specs.{Ascii.ascii_symbols, Readable.{BeginsWith, code, IsReadable}}

-- a text does not begin with another
abbrev pub is_other : List ℕ → List ℕ → Bool
is_other all part = not (starts_with nat_eq all part)

-- neither text begins with the other
abbrev pub are_apart : List ℕ → List ℕ → Bool
are_apart a b = is_other a b && is_other b a

-- a test passes for each number below another
abbrev pub each_below : ℕ → (ℕ → Bool) → Bool
each_below zero q = true
each_below (suc n) q = q n && each_below n q

pub passes_below : (n : ℕ) (q : ℕ → Bool) → each_below n q ≡ true → (k : ℕ) → k < n → q k ≡ true
passes_below n q all =
    (Decides-below_and q (λ k. q k ≡ true) (λ m. each_below m q) (λ k. (λ h. h, λ h. h)) refl (λ _. refl) n).0 all

-- each two of n texts are apart
abbrev pub texts_are_apart : ℕ → (ℕ → List ℕ) → Bool
texts_are_apart n text = each_below n (λ j. each_below n (λ k. (j == k) || is_other (text k) (text j)))

pub other : (all part : List ℕ) → is_other all part ≡ true → BeginsWith all part → ⊥
other all part test begins =
    let starts = (starts_is Decides-eqb all part (starts_with nat_eq all part) refl).1 begins.0 begins.1 in
    cc

same_or_other : (b : Bool) (j k : ℕ) (all part : List ℕ) → b ≡ (j == k) → (b || is_other all part) ≡ true
    → BeginsWith all part → j ≡ k
same_or_other true j k all part e test begins = grind (arith, nat_tests)
same_or_other false j k all part e test begins = absurd (other all part test begins)

pub texts_apart : (n : ℕ) (text : ℕ → List ℕ) → texts_are_apart n text ≡ true → (j k : ℕ) → j < n → k < n
    → BeginsWith (text k) (text j) → j ≡ k
texts_apart n text test j k p q begins =
    let inner = passes_below n (λ j. each_below n (λ k. (j == k) || is_other (text k) (text j))) test j p in
    let both = passes_below n (λ k. (j == k) || is_other (text k) (text j)) inner k q in
    same_or_other (j == k) j k (text k) (text j) refl both begins

-- the symbols of a decimal's own text
ascii_codes_are_apart : texts_are_apart 14 (code ascii_symbols) ≡ true
unfolding lib.Utf8.encode
ascii_codes_are_apart = refl

pub ascii_is_readable : IsReadable ascii_symbols
ascii_is_readable = search (rules, arith, texts_apart, ascii_codes_are_apart)
