-- Lists of patterns.
use Rattle.std.proofs.{Common.{◌≡◌, ℕ, zero, suc, ◌+◌, ◌<◌, ◌≤◌, Bool, false, List, [], ◌∷◌, ◌++◌, length, get_or, take, map, sym, ◌∙◌, ap, subst, arith}, lemmas.{List.take_all, List.Elements.{All-contains, All-map, All-more, Contains-get_or}}}
use Rattle.std.specs.{Prelude.{◌↔◌, ◌⊎◌, IsTrue, All}, List.Contains}
use Rattle.decimal_format.specs.Symbols.{Symbols, Affixes, affixes}
use Rattle.number_format.specs.{declared.{format.{affixes.NumberAffixes.NumberAffixes, outer.OuterAround.OuterAround, text_part.{PartKind.PartKind, TextPart.TextPart}}, read.{pattern.NumberPattern.NumberPattern, pattern_name.PatternName.PatternName}}, AffixedTexts.{name_of, AreNamed, ArePairApart, AreToldApart, ClashesWith}, FormattedNumbers.IsOuter, NumberText.AreParts, PatternTexts.Around, TextParts.{Piece, parts_pieces, parts_text, pieces_of, pieces_text}}
use Rattle.number_format.proofs.lemmas.format.PieceTexts.{text-of, text-of_parts}

-- ---- A loop that ends at the first element that fails a test.

module _ {X : Type 0} (P : X → Type 0) (xs : List X) (i : ℕ) where
  pub all_more : (x d : X) → i < length xs → x ≡ get_or xs i d → P x → All P (take i xs) → All P (take (i + 1) xs)
  all_more x d below is holds all = All-more P xs i d below all (subst P is holds)

  pub all_done : length xs ≤ i → All P (take i xs) → All P xs
  all_done end all = subst (All P) (take_all i xs end) all

pub listed_at : {X : Type 0} (xs : List X) (i : ℕ) (x d : X) → i < length xs → x ≡ get_or xs i d → Contains xs x
listed_at xs i x d below is = subst (Contains xs) (sym is) (Contains-get_or xs i d below)

-- ---- Elements.

pub in_map : {X Y : Type 0} (g : X → Y) (xs : List X) (x : X) → Contains xs x → Contains (map g xs) (g x)
in_map g [] x (k, h, e) = absurd (omega (arith, h))
in_map g (y ∷ ys) x (zero, h, e) = (0, omega arith, ap g e)
in_map g (y ∷ ys) x (suc k, h, e) =
    let r = in_map g ys x (k, omega arith, e) in (suc r.0, omega (arith, r.1), r.2)

-- ---- Patterns that are told apart.

module _ (s : Symbols) where
  -- each one from all is each two
  pub named_by_all : (ps : List NumberPattern) → All (λ p. All (AreToldApart s p) ps) ps → AreNamed s ps
  named_by_all ps all = record {
    pair = λ p q a b.
        All-contains (AreToldApart s p) ps q (All-contains (λ x. All (AreToldApart s x) ps) ps p all a) b;
  }

  -- the same of the patterns of keys
  pub named_by_keys : {K : Type 0} (g : K → NumberPattern) (keys : List K)
      → All (λ k. All (λ l. AreToldApart s (g k) (g l)) keys) keys → AreNamed s (map g keys)
  named_by_keys g keys all =
      named_by_all (map g keys)
      (All-map (λ p. All (AreToldApart s p) (map g keys)) g keys
      (λ k d below. All-map (AreToldApart s (g (get_or keys k d))) g keys (all k d below)))

  -- a test of their texts, signs and powers of ten
  pub told_by : (r : Bool) (a b : Affixes) (n m : PatternName) (p q : NumberPattern) → a ≡ p.affixes → b ≡ q.affixes
      → n ≡ name_of p → m ≡ name_of q
      → IsTrue r ↔ (((a ≡ b) × (n.sign ≡ m.sign) × (n.exponent ≡ m.exponent)) ⊎ ArePairApart s a b)
      → IsTrue r ↔ AreToldApart s p q
  told_by r a b n m p q first second name other test = rw (first, second, name, other) at test

  -- and one that fails
  pub clash_by : (Is : NumberPattern → Type 0) (r : Bool) (n m : PatternName) (p q : NumberPattern) → Is q
      → n ≡ name_of p → m ≡ name_of q → IsTrue r ↔ AreToldApart s p q → r ≡ false → ClashesWith s p Is (n, m)
  clash_by Is r n m p q listed name other test fails =
      (q, listed, λ i. (name i, other i), λ told. let t = test.1 told in absurd (cc))

-- ---- The texts of pieces.

pub piece_text : (k : PartKind) (text : List ℕ) (ps : List Piece) → pieces_of k text ≡ ps → text ≡ pieces_text ps
piece_text k text ps e = sym (text-of k text) ∙ ap pieces_text e

pub parts_text_is : (parts : List TextPart) (ps : List Piece) → parts_pieces parts ≡ ps
    → parts_text parts ≡ pieces_text ps
parts_text_is parts ps e = sym (text-of_parts parts) ∙ ap pieces_text e

-- what is around a whole text, and what is around the number in it
pub joined_are : (outer : OuterAround) (inner : NumberAffixes) (a b : Around) → IsOuter a outer → AreParts b inner
    → affixes (parts_text outer.before ++ parts_text inner.prefix) (parts_text inner.suffix ++ parts_text outer.after)
    ≡ affixes (pieces_text a.prefix ++ pieces_text b.prefix) (pieces_text b.suffix ++ pieces_text a.suffix)
joined_are outer inner a b is are =
    let before = piece_text outer.kind _ a.prefix is.prefix in
    let after = piece_text outer.kind _ a.suffix is.suffix in
    let prefix = parts_text_is inner.prefix b.prefix are.prefix in
    let suffix = parts_text_is inner.suffix b.suffix are.suffix in
    λ i. affixes (before i ++ prefix i) (suffix i ++ after i)
