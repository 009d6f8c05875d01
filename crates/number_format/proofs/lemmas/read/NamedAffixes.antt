-- Patterns that name the sign of a number.
use Rattle.std.proofs.{Common.{◌≡◌, ◌≢◌, ℕ, Bool, true, false, ◌%◌, suc, ◌+◌, ◌<◌, ◌≤◌, inl, inr, List, [], ◌∷◌, ◌++◌, length, get_or, refl, sym, ◌∙◌, ap, subst, arith, append_assoc, append-nil, length-append, Bor}, Math.Utf8.encode, lemmas.{Str.{encode_same, IsCharBoundary-at_seam}, Bool.Decides.nat_tests, List.{append_cancel_left, append_cancel_right}}}
use Rattle.std.specs.{Prelude.{◌↔◌, not, nat_eq, IsTrue, Option, Some, None, MatchOption, encode_utf8, slice_index}, Option.option_or, Str.IsUtf8}
use Rattle.decimal_format.specs.{Readable.{BeginsWithDigit, EndsWithDigit}, Symbols.{Symbols, digit_text}}
use Rattle.decimal_format.proofs.lemmas.reader.{Codes.meet, Scans.begins-append}
use Rattle.number_format.specs.{AffixedTexts.{ArePrefixesApart, AreSuffixesApart}}

-- ---- Characters.

-- a byte after the first one of a character
abbrev pub IsContinuation : ℕ → Type 0
IsContinuation b = (128 ≤ b) × (b < 192)

next_is : (bits : ℕ) → IsContinuation (128 + bits % 64)
next_is bits = (omega arith, omega arith)

continuation : (c k : ℕ) → suc k < length (encode_utf8 c) → IsContinuation (get_or (encode_utf8 c) (suc k) 0)
unfolding encode
continuation c k h = grind (arith, next_is)

first_char : (r : List ℕ) → IsUtf8 r → r ≢ [] → (c : ℕ) × (rest : List ℕ) × (r ≡ encode_utf8 c ++ rest)
first_char r ([], is) some = absurd (some (sym is.1))
first_char r (c ∷ cs, is) some = (c, _, sym is.1)

-- a character does not end with a text that has others before it
whole_char : (c : ℕ) (before r : List ℕ) → IsUtf8 r → r ≢ [] → encode_utf8 c ≡ before ++ r → before ≡ []
whole_char c [] r utf8 some e = refl
whole_char c (x ∷ before) [] utf8 some e = absurd (some refl)
whole_char c (x ∷ before) (y ∷ r) utf8 some e =
    let size : length (encode_utf8 c) ≡ suc (length before) + suc (length r) =
    ap length e ∙ length-append (x ∷ before) (y ∷ r) in
    let inside : suc (length before) < length (encode_utf8 c) = omega (arith, size) in
    let next = continuation c (length before) inside in
    let lead = (IsCharBoundary-at_seam (encode_utf8 c) (x ∷ before) (y ∷ r) e utf8).1 inside next.0 in
    absurd (omega (arith, next.1, lead))

-- ---- Tests.

unless : (b : Bool) (P Q : Type 0) → IsTrue b ↔ P → Q ↔ ¬ P → IsTrue (not b) ↔ Q
unless true P Q h q = (λ t. absurd (cc), λ x. absurd (q.0 x (h.0 refl)))
unless false P Q h q = (λ t. q.1 (λ p. let t = h.1 p in absurd (cc)), λ x. refl)

pub none_is : (xs : List ℕ) → nat_eq (length xs) 0 ≡ true → xs ≡ []
none_is [] e = refl
none_is (x ∷ xs) e = absurd (grind (arith, nat_tests))

-- what is left of the longer of two prefixes or suffixes decides whether they are apart
abbrev pub Decides : Type 0 → (List ℕ → Type 0) → Option (Bor (List ℕ)) → Type 0
Decides Apart Digit rest = MatchOption rest Apart
    (λ r. (IsUtf8 r.now → (r.now ≢ []) × ¬ Digit r.now → Apart) × (Apart → (r.now ≢ []) × ¬ Digit r.now))

pub apart_by_digit : (Apart : Type 0) (Digit : List ℕ → Type 0) (r : Bor (List ℕ)) (b : Bool)
    → Decides Apart Digit (Some r) → IsUtf8 r.now → r.now ≢ [] → IsTrue b ↔ Digit r.now → IsTrue (not b) ↔ Apart
apart_by_digit Apart Digit r b e utf8 some test =
    unless b (Digit r.now) Apart test (λ apart. (e.1 apart).1, λ none. e.0 utf8 (some, none))

-- ---- Digits.

module _ (s : Symbols) where
  zero_begins : BeginsWithDigit s (digit_text s 0)
  zero_begins = record { digit = 0; following = []; is_digit = omega arith; is = sym (append-nil (digit_text s 0)) }

  zero_ends : EndsWithDigit s (digit_text s 0)
  zero_ends = record { digit = 0; before = []; is_digit = omega arith; is = refl }

  begins_early : (r b : List ℕ) → IsUtf8 r → r ≢ [] → BeginsWithDigit s (r ++ b) → BeginsWithDigit s r
  begins_early r b utf8 some begins =
      let c = first_char r utf8 some in
      let same = encode_same (slice_index s.digits begins.digit) c.0 begins.following (c.1 ++ b)
      (sym begins.is ∙ ap (λ t. t ++ b) c.2 ∙ append_assoc (encode_utf8 c.0) c.1 b) in record {
        digit = begins.digit;
        following = c.1;
        is_digit = begins.is_digit;
        is = c.2 ∙ ap (λ x. encode_utf8 x ++ c.1) (sym same.0);
      }

  ends_late : (a r : List ℕ) → IsUtf8 r → r ≢ [] → EndsWithDigit s (a ++ r) → EndsWithDigit s r
  ends_late a r utf8 some ends =
      elim (meet ends.before a (digit_text s ends.digit) r (sym ends.is)) [
        | inl longer ↦
            let digit : digit_text s ends.digit ≡ longer.0 ++ r =
            append_cancel_left ends.before _ _
            (sym ends.is ∙ ap (λ t. t ++ r) longer.1 ∙ append_assoc ends.before longer.0 r) in
            let none = whole_char _ longer.0 r utf8 some digit in record {
              digit = ends.digit;
              before = [];
              is_digit = ends.is_digit;
              is = sym (digit ∙ ap (λ t. t ++ r) none);
            }
        | inr shorter ↦ record {
          digit = ends.digit;
          before = shorter.0;
          is_digit = ends.is_digit;
          is = append_cancel_left a _ _
              (ends.is ∙ ap (λ t. t ++ digit_text s ends.digit) shorter.1
              ∙ append_assoc a shorter.0 (digit_text s ends.digit));
        }
      ]

  -- ---- Two prefixes.

  prefix_after : (p q r : List ℕ) → p ≡ q ++ r → IsUtf8 r → (r ≢ []) × ¬ BeginsWithDigit s r
      → ArePrefixesApart s p q
  prefix_after p q r is utf8 apart a b x y e =
      let rest : r ++ a ≡ b =
      append_cancel_left q _ _ (sym (append_assoc q r a) ∙ ap (λ t. t ++ a) (sym is) ∙ e) in
      apart.1 (begins_early r a utf8 apart.0 (subst (BeginsWithDigit s) (sym rest) y))

  after_prefix : (p q r : List ℕ) → p ≡ q ++ r → ArePrefixesApart s p q → (r ≢ []) × ¬ BeginsWithDigit s r
  after_prefix p q r is apart = (
    λ none. apart (digit_text s 0) (digit_text s 0) zero_begins zero_begins
        (ap (λ t. t ++ digit_text s 0) (is ∙ ap (λ t. q ++ t) none ∙ append-nil q)),
    λ begins. apart (digit_text s 0) (r ++ digit_text s 0) zero_begins (begins-append s r (digit_text s 0) begins)
        (ap (λ t. t ++ digit_text s 0) is ∙ append_assoc q r (digit_text s 0)),
  )

  prefixes_swapped : (p q : List ℕ) → ArePrefixesApart s p q → ArePrefixesApart s q p
  prefixes_swapped p q apart a b x y e = apart b a y x (sym e)

  neither_prefix : (p q : List ℕ) → ((r : List ℕ) → p ≢ q ++ r) → ((r : List ℕ) → q ≢ p ++ r)
      → ArePrefixesApart s p q
  neither_prefix p q f g a b x y e = elim (meet p q a b e) [ inl l ↦ g l.0 l.1 | inr r ↦ f r.0 r.1 ]

  pub prefixes_by_rest : (p q : List ℕ) (a b : Option (Bor (List ℕ)))
      → MatchOption a ((r : List ℕ) → p ≢ q ++ r) (λ r. p ≡ q ++ r.now)
      → MatchOption b ((r : List ℕ) → q ≢ p ++ r) (λ r. q ≡ p ++ r.now)
      → Decides (ArePrefixesApart s p q) (BeginsWithDigit s) (option_or a b)
  prefixes_by_rest p q None None f g = neither_prefix p q f g
  prefixes_by_rest p q None (Some r) f g = (
    λ utf8 apart. prefixes_swapped q p (prefix_after q p r.now g utf8 apart),
    λ apart. after_prefix q p r.now g (prefixes_swapped p q apart),
  )
  prefixes_by_rest p q (Some r) b f g = (prefix_after p q r.now f, after_prefix p q r.now f)

  -- ---- Two suffixes.

  suffix_before : (p q r : List ℕ) → p ≡ r ++ q → IsUtf8 r → (r ≢ []) × ¬ EndsWithDigit s r
      → AreSuffixesApart s p q
  suffix_before p q r is utf8 apart a b x y e =
      let rest : a ++ r ≡ b =
      append_cancel_right _ _ q (append_assoc a r q ∙ ap (λ t. a ++ t) (sym is) ∙ e) in
      apart.1 (ends_late a r utf8 apart.0 (subst (EndsWithDigit s) (sym rest) y))

  pub ends-append : (a r : List ℕ) → EndsWithDigit s r → EndsWithDigit s (a ++ r)
  ends-append a r ends = record {
    digit = ends.digit;
    before = a ++ ends.before;
    is_digit = ends.is_digit;
    is = ap (λ t. a ++ t) ends.is ∙ sym (append_assoc a ends.before (digit_text s ends.digit));
  }

  before_suffix : (p q r : List ℕ) → p ≡ r ++ q → AreSuffixesApart s p q → (r ≢ []) × ¬ EndsWithDigit s r
  before_suffix p q r is apart = (
    λ none. apart (digit_text s 0) (digit_text s 0) zero_ends zero_ends
        (ap (λ t. digit_text s 0 ++ t) (is ∙ ap (λ t. t ++ q) none)),
    λ ends. apart (digit_text s 0) (digit_text s 0 ++ r) zero_ends (ends-append (digit_text s 0) r ends)
        (ap (λ t. digit_text s 0 ++ t) is ∙ sym (append_assoc (digit_text s 0) r q)),
  )

  suffixes_swapped : (p q : List ℕ) → AreSuffixesApart s p q → AreSuffixesApart s q p
  suffixes_swapped p q apart a b x y e = apart b a y x (sym e)

  neither_suffix : (p q : List ℕ) → ((r : List ℕ) → p ≢ r ++ q) → ((r : List ℕ) → q ≢ r ++ p)
      → AreSuffixesApart s p q
  neither_suffix p q f g a b x y e = elim (meet a b p q e) [
    | inl l ↦ f l.0 (append_cancel_left a _ _ (e ∙ ap (λ t. t ++ q) l.1 ∙ append_assoc a l.0 q))
    | inr r ↦ g r.0 (append_cancel_left b _ _ (sym e ∙ ap (λ t. t ++ p) r.1 ∙ append_assoc b r.0 p))
  ]

  pub suffixes_by_rest : (p q : List ℕ) (a b : Option (Bor (List ℕ)))
      → MatchOption a ((r : List ℕ) → p ≢ r ++ q) (λ r. p ≡ r.now ++ q)
      → MatchOption b ((r : List ℕ) → q ≢ r ++ p) (λ r. q ≡ r.now ++ p)
      → Decides (AreSuffixesApart s p q) (EndsWithDigit s) (option_or a b)
  suffixes_by_rest p q None None f g = neither_suffix p q f g
  suffixes_by_rest p q None (Some r) f g = (
    λ utf8 apart. suffixes_swapped q p (suffix_before q p r.now g utf8 apart),
    λ apart. before_suffix q p r.now g (suffixes_swapped p q apart),
  )
  suffixes_by_rest p q (Some r) b f g = (suffix_before p q r.now f, before_suffix p q r.now f)
