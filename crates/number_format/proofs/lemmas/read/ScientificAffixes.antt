-- Numbers with an exponent between the texts of patterns.
use Rattle.std.proofs.Common.{◌≡◌, ℕ, List, inl, inr, refl, sym, ◌∙◌, ap, subst}
use Rattle.std.specs.{Prelude.{◌⊎◌, ◌<◌, ◌^◌, Option, Some, None, IfSome, Result, Ok, Err, ok_or, ℤ, unsigned_abs}, List.Contains}
use Rattle.decimal_unsigned.specs.{Edits.multiplied_pow10, Unsigned.{Unsigned, IsValue}, declared.error.ParseError.{ParseError, TheVariants.{Syntax, Limit, Memory}}}
use Rattle.fixed_decimal.specs.{Decimal.{Decimal, with_absolute}, declared.variations.Sign.Sign}
use Rattle.decimal_format.specs.{declared.grouping.GroupingStrategy.GroupingStrategy, Readable.IsReadable, Scanning.value_of}
use Rattle.plural_rules.specs.declared.rules.PluralCategory.{PluralCategory}
use Rattle.locale_data.specs.Plurals.{IsCategoryAt}
use Rattle.number_format.specs.{declared.read.{pattern.NumberPattern.NumberPattern, scientific.ExponentForm.ExponentForm}, AffixedTexts.{Reader, AreNamed, AreSame, between, shifted, IsBetween, IsSplit}, NumberText.operands_with, ScientificReading.{IsSeparatorApart, ScientificNumeral, exponent_of, IsScientificNumeral, IsReadScientific, scientific_value, CanReadExponent, HasExponentOf, notation_of, scientific_text}, AffixedExponents.{IsWrittenScientific, IsOfExponent, IsShownScientific, signed, IsOwnExponent, IsReadShownExponent, IsReadWithExponent}}
use Rattle.number_format.proofs.lemmas.read.{AffixedNumbers.{only_middle, of_category, allows_it}, ScientificBodies.{scientific_begins, scientific_ends}, ScientificShown.{number, numeral, exponent_is, numeral_is, shown_numeral}, ScientificUnique.{one_significand, one_exponent}}

module _ (r : Reader) (f : ExponentForm) (bytes : List ℕ) (inline : ℕ) where
  body_between : (p : NumberPattern) (w : ScientificNumeral) (n : IsWrittenScientific r f bytes p w)
      → IsBetween r.symbols bytes p n.body
  body_between p w n = record {
    begins = scientific_begins r.symbols f n.body w n.numeral;
    ends = scientific_ends r.symbols f n.body w n.numeral;
    is = n.text;
  }

  -- the text is between those of no pattern
  pub none_shown : ((p : NumberPattern) (middle : List ℕ) → ¬ IsSplit r.symbols r.patterns None bytes p middle)
      → IsReadShownExponent inline r f bytes (Err Syntax)
  none_shown none = (
    Err Syntax,
    record {
      found = λ other. absurd (other refl);
      value = λ p w n.
          absurd (none p n.body (record { listed = n.listed; allowed = tt; between = body_between p w n }));
    },
    refl,
  )

  module _ (readable : IsReadable r.symbols) (named : AreNamed r.symbols r.patterns) (p : NumberPattern)
      (middle : List ℕ) (inside : IsSplit r.symbols r.patterns None bytes p middle) where
    written : (w : ScientificNumeral) → IsScientificNumeral r.symbols f middle w → IsWrittenScientific r f bytes p w
    written w n = record { listed = inside.listed; body = middle; text = inside.between.is; numeral = n }

    only_body : (q : NumberPattern) (w : ScientificNumeral) (n : IsWrittenScientific r f bytes q w)
        → AreSame p q × IsScientificNumeral r.symbols f middle w
    only_body q w n =
        let same = only_middle r bytes readable named p middle inside q n.body n.listed (body_between q w n) in
        (same.0, subst (λ b. IsScientificNumeral r.symbols f b w) (sym same.1) n.numeral)

    -- what is read between the texts of the pattern, and then its category
    pub shown_between : (read result : Result Decimal ParseError) → IsReadScientific inline r.symbols f middle read
        → IsOwnExponent r f bytes (signed p.sign read) result → IsReadShownExponent inline r f bytes result
    shown_between read result is own = (
      signed p.sign read,
      record {
        found = λ other. let x = is.found (λ e. other (ap (signed p.sign) e)) in (p, x.0, written x.0 x.1);
        value = λ q w n.
            let same = only_body q w n in
            elim (is.value w same.1) [
              | inl e ↦ inl (ap (signed p.sign) e ∙ ap (λ z. signed z (scientific_value w)) same.0.1)
              | inr m ↦ inr (ap (signed p.sign) m.0, m.1)
            ];
      },
      own,
    )

    -- the pattern is for all numbers
    pub shown_without : p.category ≡ None → (v : Decimal) → IsReadScientific inline r.symbols f middle (Ok v)
        → IsReadShownExponent inline r f bytes (signed p.sign (Ok v))
    shown_without any v is =
        let x = is.found (λ e. absurd (cc)) in
        let of_any = subst (λ (own : Option PluralCategory). IfSome own (IsCategoryAt r.rules (operands_with
        (value_of x.0.significand) (exponent_of x.0)))) (sym any) tt in
        shown_between (Ok v) (signed p.sign (Ok v)) is (inl ((p, x.0, written x.0 x.1, of_any), refl))

    -- ---- The category.

    module _ (apart : IsSeparatorApart r.symbols f.separator.now) (w : ScientificNumeral)
        (n : IsScientificNumeral r.symbols f middle w) (c : PluralCategory)
        (of_number : IsCategoryAt r.rules (operands_with (value_of w.significand) (exponent_of w)) c) where
      -- the text is that of the pattern of this category
      pub shown_by : (q : NumberPattern) (text : List ℕ) → IsSplit r.symbols r.patterns (Some c) bytes q text
          → IsShownScientific r f bytes
      shown_by q text split =
          let same = only_middle r bytes readable named p middle inside q text split.listed split.between in (
            q,
            w,
            record {
              listed = split.listed;
              body = text;
              text = split.between.is;
              numeral = subst (λ b. IsScientificNumeral r.symbols f b w) same.1 n;
            },
            of_category r.rules (operands_with (value_of w.significand) (exponent_of w)) c of_number q.category
                split.allowed,
          )

      -- the text is that of no pattern of this category
      pub not_shown : ((q : NumberPattern) (text : List ℕ) → ¬ IsSplit r.symbols r.patterns (Some c) bytes q text)
          → ¬ IsShownScientific r f bytes
      not_shown none (q, x, its, of_its) =
          let there = (only_body q x its).1 in
          let significand = one_significand r.symbols readable f apart middle x w there n in
          let exponent = one_exponent r.symbols readable f apart middle x w there n in
          let of_w = subst (λ o. IfSome q.category (IsCategoryAt r.rules o))
          (λ i. operands_with (value_of (significand i)) (exponent i)) of_its in
          none q its.body (record {
            listed = its.listed;
            allowed = allows_it r.rules (operands_with (value_of w.significand) (exponent_of w)) c of_number q.category
                of_w;
            between = body_between q x its;
          })

-- ---- What is written is read back.

sign_kept : (sign x : Sign) (v : Unsigned) (made : Option Unsigned)
    → signed sign (ok_or (with_absolute (record { sign = x; absolute = v }) made) Limit)
    ≡ ok_or (with_absolute (record { sign = sign; absolute = v }) made) Limit
sign_kept sign x v (Some made) = refl
sign_kept sign x v Option.None = refl

pub affixed_reads : (inline : ℕ) (r : Reader) (f : ExponentForm) (g : GroupingStrategy) (p : NumberPattern)
    (v : Unsigned) (e : ℤ) (result : Result Decimal ParseError) → Contains r.patterns p → CanReadExponent r.symbols f
    → IsValue v → unsigned_abs e < 2 ^ 32 → HasExponentOf (notation_of f) v.number e → IsOfExponent r.rules v e p
    → IsReadWithExponent inline r f (between p (scientific_text r.symbols f g v e)) result
    → (result ≡ shifted r.shift (shifted e (Ok (record { sign = p.sign; absolute = v })))) ⊎ (result ≡ Err Memory)
affixed_reads inline r f g p v e result listed can valid small is of_it (read, (found, shown, own), same) =
    let value = numeral_is r.symbols f g v valid e can small is in
    let text = between p (scientific_text r.symbols f g v e) in
    let w = numeral r.symbols f g v valid e can small is in
    let its : IsWrittenScientific r f text p w = record {
      listed = listed;
      body = scientific_text r.symbols f g v e;
      text = refl;
      numeral = shown_numeral r.symbols f g v valid e can small is;
    } in
    let absolute = (number r.symbols f g v valid e can small is).2.absolute in
    let exponent = exponent_is r.symbols f g v valid e can small is in
    let of_its : IsOfExponent r.rules (value_of w.significand) (exponent_of w) p =
    subst (λ o. IfSome p.category (IsCategoryAt r.rules o)) (λ i. operands_with (absolute i) (sym exponent i)) of_it in
    elim (shown.value p w its) [
      | inl x ↦ inl (same ∙ ap (shifted r.shift)
          (kept r f text (p, w, its, of_its) found read own ∙ x ∙ ap (signed p.sign) value
          ∙ sign_kept p.sign Sign.None v (multiplied_pow10 v e)))
      | inr x ↦
          inr (same ∙ ap (shifted r.shift) (kept r f text (p, w, its, of_its) found read own ∙ x.0))
    ]
  where
    -- what is read of a text by its category is what was read of it
    kept : (r : Reader) (f : ExponentForm) (text : List ℕ) → IsShownScientific r f text
        → (found read : Result Decimal ParseError) → IsOwnExponent r f text found read → read ≡ found
    kept r f text shown (Ok x) read (inl own) = own.1
    kept r f text shown (Ok x) read (inr other) = absurd (other.0 shown)
    kept r f text shown (Err x) read own = own
