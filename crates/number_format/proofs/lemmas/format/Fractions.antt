-- Numbers of which the integer digits are hidden.
use Rattle.std.proofs.{Common.{◌≡◌, ℕ, zero, suc, ◌+◌, ◌<◌, List, [], ◌++◌, length, sym, ◌∙◌, ap, arith, append_assoc, append-nil, length-append, refl}, lemmas.Int.ints}
use Rattle.std.specs.{Prelude.{Option, Some, None, ℤ, pos, negsuc, ◌-ℤ◌, Bool, true, false}, Int.int_gap, Io.KnownBytes.Appends}
use Rattle.decimal_digits.specs.Number.{digit}
use Rattle.decimal_unsigned.specs.Unsigned.{Unsigned}
use Rattle.decimal_format.specs.{declared.grouping.GroupingStrategy.GroupingStrategy, Formatted.{absolute_text, separator_before, separator_after, shown_count}, Symbols.{Symbols, digit_text}}
use Rattle.number_format.specs.{declared.format.text_part.PartKind.TheVariants.Integer, FormattedNumbers.{visible_text, fraction_magnitude}, TextParts.{digit_if, first_pieces, magnitude_pieces, pieces_text}}
use Rattle.number_format.proofs.lemmas.format.PieceTexts.{first_pieces-more, some_of_digits, text-append, text-of_digits, text-of_magnitude}

-- a sink that takes nothing, and one that takes a text and then another
pub appends_nil : (a : Option (List ℕ)) (xs : List ℕ) → xs ≡ [] → Appends a a xs
appends_nil None xs e = tt
appends_nil (Some bytes) xs e = sym (append-nil bytes) ∙ ap (λ l. bytes ++ l) (sym e)

pub appends_trans : (a b c : Option (List ℕ)) (xs ys zs : List ℕ) → zs ≡ xs ++ ys → Appends a b xs → Appends b c ys
    → Appends a c zs
appends_trans None b c xs ys zs e p q = tt
appends_trans (Some x) None c xs ys zs e p q = absurd p
appends_trans (Some x) (Some y) None xs ys zs e p q = absurd q
appends_trans (Some x) (Some y) (Some z) xs ys zs e p q =
    q ∙ ap (λ l. l ++ ys) p ∙ append_assoc x xs ys ∙ ap (λ l. x ++ l) (sym e)

module _ (s : Symbols) (strategy : GroupingStrategy) (v : Unsigned) where
  -- the text of the given number of magnitudes, and of one of them
  abbrev text : Bool → ℕ → List ℕ
  text hidden n = pieces_text (first_pieces hidden Integer s strategy v n)

  abbrev at : Bool → ℤ → List ℕ
  at hidden m = separator_before s m ++ (digit_if hidden s v.number m ++ separator_after s strategy v.hi m)

  -- of one magnitude more
  pub text-more : (hidden : Bool) (i : ℕ) → text hidden (i + 1) ≡ text hidden i ++ at hidden (v.hi -ℤ pos i)
  text-more hidden i =
      ap pieces_text (first_pieces-more hidden Integer s strategy v i)
      ∙ text-append (first_pieces hidden Integer s strategy v i)
      (magnitude_pieces hidden Integer s strategy v (v.hi -ℤ pos i))
      ∙ ap (λ l. text hidden i ++ l) (text-of_magnitude hidden Integer s strategy v (v.hi -ℤ pos i))

  -- the magnitudes before one, that one, and those after it
  pub text-split : (n : ℕ) → n < shown_count v
      → (rest : List ℕ)
      × (pieces_text (first_pieces true Integer s strategy v n)
      ++ (fraction_magnitude s strategy v (v.hi -ℤ pos n) ++ rest) ≡ visible_text true s strategy v)
  text-split n h =
      let (rest, is) = some_of_digits true Integer s strategy v n h in (
        pieces_text rest,
        sym (append_assoc (text true n) (at true (v.hi -ℤ pos n)) (pieces_text rest))
            ∙ ap (λ l. l ++ pieces_text rest) (sym (text-more true n))
            ∙ sym (text-append (first_pieces true Integer s strategy v (n + 1)) rest)
            ∙ ap pieces_text is,
      )

  pub none : (hidden : Bool) → text hidden 0 ≡ []
  unfolding first_pieces
  none hidden = refl

  -- with one integer digit, only this digit is hidden
  module _ (one : v.hi ≡ pos 0) where
    abbrev whole : List ℕ
    whole = digit_text s (digit v.number (v.hi -ℤ pos 0))

    first_hidden : digit_if true s v.number (v.hi -ℤ pos 0) ≡ []
    first_hidden =
        let e : v.hi -ℤ pos 0 ≡ pos 0 = omega (arith, ints, one) in
        ap (digit_if true s v.number) e

    others_shown : (k : ℕ) → at false (v.hi -ℤ pos (k + 1)) ≡ at true (v.hi -ℤ pos (k + 1))
    others_shown k =
        let e : v.hi -ℤ pos (k + 1) ≡ negsuc k = omega (arith, ints, one) in
        ap (at false) e ∙ sym (ap (at true) e)

    lengths : (n : ℕ) → length (text false (n + 1)) ≡ length whole + length (text true (n + 1))
    lengths zero =
        let before = separator_before s (v.hi -ℤ pos 0) in
        let after = separator_after s strategy v.hi (v.hi -ℤ pos 0) in
        let shown = ap length (text-more false 0 ∙ ap (λ l. l ++ (before ++ (whole ++ after))) (none false)) in
        let hidden =
        ap length (text-more true 0 ∙ (λ i. none true i ++ (before ++ (first_hidden i ++ after)))) in
        omega (
          arith,
          shown,
          hidden,
          length-append before (whole ++ after),
          length-append whole after,
          length-append before after,
        )
    lengths (suc n) =
        let e : n + 1 ≡ suc n = omega arith in
        let m = v.hi -ℤ pos (n + 1) in
        let shown = ap length (ap (text false) (ap (λ k. k + 1) (sym e)) ∙ text-more false (n + 1)) in
        let hidden = ap length (ap (text true) (ap (λ k. k + 1) (sym e)) ∙ text-more true (n + 1)) in
        omega (
          arith,
          shown,
          hidden,
          lengths n,
          length-append (text false (n + 1)) (at false m),
          length-append (text true (n + 1)) (at true m),
          ap length (others_shown n),
        )

    pub length-split : length (absolute_text s strategy v) ≡ length whole + length (visible_text true s strategy v)
    length-split =
        ap length (sym (text-of_digits Integer s strategy v)) ∙ lengths (int_gap v.lo v.hi)
