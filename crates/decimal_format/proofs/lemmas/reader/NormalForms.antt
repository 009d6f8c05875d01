-- Normal forms, read byte by byte.
use Rattle.std.proofs.{Common.{◌≡◌, ◌≢◌, ℕ, ◌+◌, ◌-◌, ◌<◌, ◌≤◌, List, [], ◌∷◌, ◌++◌, length, get_or, take, drop, sym, ◌∙◌, ap, arith, append-nil, length-append, length-drop, drop-cons, take-append-drop}, Math.{Seq.{drop-append-add, drop-append_seam}, ListN.get_or-append}, lemmas.List.{drop-drop, nil_from_length, Concat.flat_map-cons}}
use Rattle.std.specs.{List.flat_map, Str.chars}
use Rattle.decimal_format.specs.{Symbols.Symbols, Lenient.{replacement, replaced}}
use Rattle.decimal_format.proofs.lemmas.symbols.Rules.{steps}

-- ---- Steps over a list.
-- what follows one element more
pub drop_next : (n : ℕ) (all : List ℕ) (x : ℕ) (after : List ℕ) → drop n all ≡ x ∷ after → drop (n + 1) all ≡ after
drop_next n all x after e = sym (drop-drop 1 n all) ∙ ap (drop 1) e

-- ---- The end.
module _ (front : ℕ) (text code : List ℕ) (size : length text ≡ front + length code) where
  -- what is before a code at the end
  pub end_cut : (after : List ℕ) → drop front text ≡ code ++ after → text ≡ take front text ++ code
  end_cut after e =
      let none : after ≡ [] =
      nil_from_length after
      (omega (arith, size, ap length e, length-drop front text, length-append code after)) in
      sym (take-append-drop front text)
      ∙ ap (λ l. take front text ++ l) (e ∙ ap (λ l. code ++ l) none ∙ append-nil code)

  -- the code is not there
  pub end_fails : ((after : List ℕ) → drop front text ≢ code ++ after) → (before : List ℕ) → text ≢ before ++ code
  end_fails other before e =
      let same : front ≡ length before = omega (arith, size, ap length e, length-append before code) in
      other [] (ap (λ n. drop n text) same ∙ ap (drop (length before)) e ∙ drop-append_seam before code
      ∙ sym (append-nil code))

-- ---- Steps over a character.
module _ (s : Symbols) where
  module _ (bytes rest : List ℕ) (c : ℕ) (first : chars bytes ≡ c ∷ chars rest) where
    pub split : replaced s bytes ≡ replacement s c ++ replaced s rest
    split = ap (flat_map (replacement s)) first ∙ flat_map-cons (replacement s) c (chars rest)

    -- its bytes were read
    pub character_read : (read : ℕ) → length (replacement s c) ≤ read
        → drop read (replaced s bytes) ≡ drop (read - length (replacement s c)) (replaced s rest)
    character_read read h = grind (arith, split, drop-append-add)

    -- its next byte
    pub byte_read : (read : ℕ) → read < length (replacement s c)
        → drop read (replaced s bytes) ≡ get_or (replacement s c) read 0 ∷ drop (read + 1) (replaced s bytes)
    byte_read read h = grind (steps, split, length-append, get_or-append, drop-cons)
