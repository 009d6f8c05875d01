-- The text of a scientific value: how it is split, and that it reads as the value.
use Rattle.std.proofs.Common.{◌≡◌, ◌==◌, ℕ, false, List, [], ◌∷◌, refl, sym, ◌∙◌, ap, arith, pos, Option, Some, None, Ok, Err}
use Rattle.std.specs.List.{list_any}
use Rattle.decimal_unsigned.specs.{Reading.{syntax, is_letter}, Unsigned.IsValue}
use Rattle.fixed_decimal.proofs.lemmas.{integer.{IntegerTexts.integer_reads_back, Splitting.{split_at, split_parts}}, signed_decimal.DecimalBytes.{decimal_text-lacks, letter-none}}
use Rattle.fixed_decimal.specs.{DecimalText.{decimal_text, read_decimal}, Scientific.{Scientific, scientific_text, plain_parts, split_at_e, read_scientific, IsSplitAtE, ReadsScientific}, Split.split_once}

lacks_e : (text : List ℕ) → list_any is_letter text ≡ false → list_any (λ c. c == 101) text ≡ false
lacks_e [] h = refl
lacks_e (c ∷ text) h = grind (arith, lacks_e text)

-- the split finds the parts
split_is : (text front suffix : List ℕ) → IsSplitAtE text front suffix → split_at_e text ≡ Ok (front, suffix)
unfolding split_at_e
split_is text front suffix c =
    ap (λ t. plain_parts (split_once 101 t)) c.is
    ∙ ap plain_parts (split_at 101 front suffix (lacks_e front c.plain_significand))
    ∙ (rw (c.plain_significand, c.plain_exponent) refl)

-- if there are no parts, the split fails
unsplit_is : (text : List ℕ) → ((front suffix : List ℕ) → ¬ IsSplitAtE text front suffix)
    → split_at_e text ≡ Err syntax
unfolding split_at_e
unsplit_is text n = go (split_once 101 text) refl
  where
    go : (o : Option (List ℕ × List ℕ)) → split_once 101 text ≡ o → plain_parts o ≡ Err syntax
    go None e = refl
    go (Some parts) e =
        let is = split_parts 101 text parts e in
        let never : list_any is_letter parts.0 ≡ false → list_any is_letter parts.1 ≡ false → ⊥ = grind arith in
        grind arith

-- reading is reading the parts of the split, or there is none
pub scientific_reads : (text : List ℕ) → ReadsScientific text (read_scientific text)
scientific_reads text = grind (arith, split_is, unsplit_is)

-- the text of a value is split between its parts
split_between : (v : Scientific)
    → split_at_e (scientific_text v) ≡ Ok (decimal_text v.significand, decimal_text v.exponent)
split_between v = grind (arith, split_is, decimal_text-lacks, letter-none)

-- equal texts have equal parts
pub same_fields : (v w : Scientific) → scientific_text v ≡ scientific_text w
    → (decimal_text v.significand ≡ decimal_text w.significand) × (decimal_text v.exponent ≡ decimal_text w.exponent)
same_fields v w e =
    let parts = sym (split_between v) ∙ ap split_at_e e ∙ split_between w in
    let pairs : (decimal_text v.significand, decimal_text v.exponent)
    ≡ (decimal_text w.significand, decimal_text w.exponent) = cc in
    (ap (λ (p : List ℕ × List ℕ). p.0) pairs, ap (λ (p : List ℕ × List ℕ). p.1) pairs)

-- and each part reads as itself
pub scientific_reads_back : (v : Scientific) → read_decimal (decimal_text v.significand) ≡ Ok v.significand
    → IsValue v.exponent.absolute
    → v.exponent.absolute.lo ≡ pos 0
    → read_scientific (scientific_text v) ≡ Ok v
scientific_reads_back v h k e = grind (arith, split_between, integer_reads_back)
