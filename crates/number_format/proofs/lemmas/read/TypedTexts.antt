-- Characters that are compared where words are typed.
use Rattle.std.proofs.{Common.{◌≡◌, ℕ, List, [], ◌∷◌, ◌++◌, ◌∙◌, ap, sym, refl, ◌≢◌, true, false, inl, inr, append_assoc, subst, arith, to_z, of_z, w16, w32, FitsSigned}, lemmas.{Bool.cases_Bool, Int.{ints, to_z-of_z}, List.append_cancel_left, Str.{chars-append, encodes-append, encodes-chars, encodes_same}}}
use Rattle.std.specs.Str.{IsUtf8, chars, encode_utf8_all}
use Rattle.std.specs.Prelude.{zero, suc, Result, ℤ, pos, ◌≤ℤ◌}
use Rattle.decimal_unsigned.specs.declared.error.ParseError.{ParseError}
use Rattle.fixed_decimal.specs.Decimal.{Decimal}
use Rattle.number_format.specs.NumberText.{is_empty}
use Rattle.number_format.specs.TypedWords.{is_kept, lowered, folded, IsSkipped, IsKeptFirst, FollowsWord, IsCut, IsAfterWord, IsWithoutWord, IsReadWithout, IsMeaning, Typing}

folded_kept : (c : ℕ) (cs : List ℕ) → is_kept c ≡ true → folded (c ∷ cs) ≡ lowered c ∷ folded cs
folded_kept c cs kept = rw kept

folded_out : (c : ℕ) (cs : List ℕ) → is_kept c ≡ false → folded (c ∷ cs) ≡ folded cs
folded_out c cs kept = rw kept

folded-append : (xs ys : List ℕ) → folded (xs ++ ys) ≡ folded xs ++ folded ys
folded-append [] ys = refl
folded-append (c ∷ xs) ys = elim (cases_Bool (is_kept c)) [
  | inl k ↦ folded_kept c (xs ++ ys) k ∙ ap (λ l. lowered c ∷ l) (folded-append xs ys)
      ∙ ap (λ l. l ++ folded ys) (sym (folded_kept c xs k))
  | inr k ↦ folded_out c (xs ++ ys) k ∙ folded-append xs ys ∙ ap (λ l. l ++ folded ys) (sym (folded_out c xs k))
]

-- one character more is left out
pub out_more : (out rest : List ℕ) (c : ℕ) (text after : List ℕ) → text ≡ out ++ rest → folded out ≡ []
    → rest ≡ c ∷ after → is_kept c ≡ false → (more : List ℕ) × (text ≡ more ++ after) × (folded more ≡ [])
out_more out rest c text after is none next kept = (
  out ++ c ∷ [],
  is ∙ ap (λ l. out ++ l) next ∙ sym (append_assoc out (c ∷ []) after),
  folded-append out (c ∷ []) ∙ ap (λ l. l ++ folded (c ∷ [])) none ∙ folded_out c [] kept,
)

-- what is compared of characters with a first one that is not left out
folded_first : (cs rest : List ℕ) (c : ℕ) → IsKeptFirst cs c rest → folded cs ≡ lowered c ∷ folded rest
folded_first cs rest c is =
    ap folded is.parts ∙ folded-append is.out (c ∷ rest) ∙ ap (λ l. l ++ folded (c ∷ rest)) is.none
    ∙ folded_kept c rest is.kept

-- a text that begins with a character that is compared begins with what is left out before it
reaches : (out typed rest after ws : List ℕ) (t w : ℕ) → out ++ t ∷ after ≡ typed ++ rest → folded out ≡ []
    → folded typed ≡ w ∷ ws → (more : List ℕ) × (typed ≡ out ++ t ∷ more) × (after ≡ more ++ rest)
reaches [] [] rest after ws t w e none some = absurd (cc)
reaches [] (c ∷ cs) rest after ws t w e none some = (cs, cc, cc)
reaches (o ∷ os) [] rest after ws t w e none some = absurd (cc)
reaches (o ∷ os) (c ∷ cs) rest after ws t w e none some = elim (cases_Bool (is_kept o)) [
  | inl k ↦ absurd (let f = folded_kept o os k in cc)
  | inr k ↦
      let same : o ≡ c = cc in
      let tail : os ++ t ∷ after ≡ cs ++ rest = cc in
      let found = reaches os cs rest after ws t w tail (sym (folded_out o os k) ∙ none)
      (sym (folded_out c cs (ap is_kept (sym same) ∙ k)) ∙ some) in
      (found.0, ap (λ l. c ∷ l) found.1 ∙ ap (λ d. d ∷ (os ++ t ∷ found.0)) (sym same), found.2)
]

module _ (word text : List ℕ) where
  -- a word without letters is before what is left out
  pub empty_word : (rest : List ℕ) → folded word ≡ [] → IsSkipped text rest → FollowsWord (folded word) text rest
  empty_word rest none is = record { typed = is.out; parts = is.parts; same = is.none ∙ sym none; whole = is.whole }

  module _ (w : ℕ) (others : List ℕ) (first : IsKeptFirst word w others) where
    pub no_letter : folded text ≡ [] → (rest : List ℕ) → ¬ FollowsWord (folded word) text rest
    no_letter none rest is =
        let begins = folded_first word others w first in
        let both = sym (ap folded is.parts ∙ folded-append is.typed rest) ∙ none in
        absurd (let e = sym (ap (λ l. l ++ folded rest) (is.same ∙ begins)) ∙ both in cc)

    module _ (t : ℕ) (after : List ℕ) (next : IsKeptFirst text t after) where
      pub other_letter : (lowered t ≡ lowered w → ⊥) → (rest : List ℕ) → ¬ FollowsWord (folded word) text rest
      other_letter differs rest is =
          let begins = folded_first word others w first in
          let both = sym (ap folded is.parts ∙ folded-append is.typed rest) ∙ folded_first text after t next in
          differs (let e = sym (ap (λ l. l ++ folded rest) (is.same ∙ begins)) ∙ both in cc)

      module _ (same : lowered t ≡ lowered w) where
        pub follows_more : (rest : List ℕ) → FollowsWord (folded others) after rest
            → FollowsWord (folded word) text rest
        follows_more rest is = record {
          typed = next.out ++ t ∷ is.typed;
          parts = next.parts ∙ ap (λ l. next.out ++ t ∷ l) is.parts
              ∙ sym (append_assoc next.out (t ∷ is.typed) rest);
          same = folded-append next.out (t ∷ is.typed) ∙ ap (λ l. l ++ folded (t ∷ is.typed)) next.none
              ∙ folded_kept t is.typed next.kept ∙ ap (λ l. lowered t ∷ l) is.same
              ∙ ap (λ c. c ∷ folded others) same ∙ sym (folded_first word others w first);
          whole = is.whole;
        }

        pub follows_less : (rest : List ℕ) → FollowsWord (folded word) text rest
            → FollowsWord (folded others) after rest
        follows_less rest is =
            let begins = is.same ∙ folded_first word others w first in
            let found = reaches next.out is.typed rest after (folded others) t (lowered w)
            (sym next.parts ∙ is.parts) next.none begins in
            let letters = sym (ap folded found.1 ∙ folded-append next.out (t ∷ found.0)
            ∙ ap (λ l. l ++ folded (t ∷ found.0)) next.none ∙ folded_kept t found.0 next.kept) ∙ begins in
            record { typed = found.0; parts = found.2; same = cc; whole = is.whole }

pub all_out : (cs rest : List ℕ) → IsSkipped cs rest → rest ≡ [] → folded cs ≡ []
all_out cs rest is none =
    ap folded is.parts ∙ folded-append is.out rest ∙ ap (λ l. l ++ folded rest) is.none ∙ ap folded none

pub first_kept : (cs rest after : List ℕ) (c : ℕ) → IsSkipped cs rest → rest ≡ c ∷ after → IsKeptFirst cs c after
first_kept cs rest after c is next = record {
  out = is.out;
  parts = is.parts ∙ ap (λ l. is.out ++ l) next;
  none = is.none;
  kept = is.whole c after next;
}

-- ---- Parts of texts.

pub cut_again : (text front rest tail : List ℕ) → IsUtf8 text → IsUtf8 front → text ≡ front ++ rest
    → IsCut text (chars front) tail → IsCut text (chars front) (chars rest)
cut_again text front rest tail utf8 begins is cut =
    let whole = encodes_same (chars text) (chars front ++ tail) (encodes-chars text utf8 ∙ cut.parts) in
    let same : chars front ++ tail ≡ chars front ++ chars rest =
    sym whole ∙ ap chars is ∙ chars-append front rest begins in
    subst (λ t. IsCut text (chars front) t) (append_cancel_left (chars front) tail (chars rest) same) cut

pub joined_parts : (front rest : List ℕ) → IsUtf8 front → IsUtf8 rest
    → front ++ rest ≡ encode_utf8_all (chars front ++ chars rest)
joined_parts front rest utf8 also =
    sym (encodes-append (chars front) (chars rest) ∙ ap (λ l. l ++ encode_utf8_all (chars rest))
    (encodes-chars front utf8) ∙ ap (λ l. front ++ l) (encodes-chars rest also))

module _ (word others : List ℕ) (w : ℕ) (first : IsKeptFirst word w others) (front tail rest : List ℕ)
    (utf8 : IsUtf8 front) (also : IsUtf8 rest) (begins : (cs : List ℕ) → chars tail ≢ 46 ∷ cs)
    (follows : FollowsWord (folded word) (chars tail) (chars rest)) where
  pub left_of_word : (left : List ℕ) → left ≡ front ++ rest → IsWithoutWord word (chars front) (chars tail) left
  left_of_word left is = record {
    some = λ none. absurd (let e = folded_first word others w first in cc);
    begins = begins;
    rest = chars rest;
    follows = follows;
    is = is ∙ joined_parts front rest utf8 also;
  }

pub after_own_word : (word text others left : List ℕ) (w : ℕ) → IsKeptFirst word w others → IsUtf8 left
    → FollowsWord (folded word) text (chars left) → IsAfterWord word text left
after_own_word word text others left w first utf8 follows = record {
  some = λ none. absurd (let e = folded_first word others w first in cc);
  rest = chars left;
  follows = follows;
  is = sym (encodes-chars left utf8);
}

pub has_letter : (cs rest : List ℕ) (c : ℕ) → IsKeptFirst cs c rest → is_empty (folded cs) ≡ false
has_letter cs rest c is = ap is_empty (folded_first cs rest c is)

-- a power of ten is kept as a 16-bit integer
pub kept_power : (power : ℤ) → pos 0 ≤ℤ power → power ≤ℤ pos 255
    → to_z w16 (of_z w16 (to_z w32 (of_z w32 power))) ≡ power
kept_power power least most =
    let wide : FitsSigned w32 power = omega (arith, ints, least, most) in
    let narrow : FitsSigned w16 power = omega (arith, ints, least, most) in
    ap (λ z. to_z w16 (of_z w16 z)) (to_z-of_z w32 power wide) ∙ to_z-of_z w16 power narrow

pub by_word : (t : Typing) (i : ℕ) (found : Result Decimal ParseError) → i ≢ 0 → IsReadWithout t i found
    → IsMeaning t i found
by_word t zero found some is = absurd (some refl)
by_word t (suc i) found some is = is
