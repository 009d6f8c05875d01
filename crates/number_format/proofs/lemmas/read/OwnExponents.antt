-- A number with an exponent that was read between the texts of a pattern, and its category.
use Rattle.std.proofs.Common.{◌≡◌, ℕ, ◌<◌, inl, inr, List, refl, sym, ◌∙◌, subst}
use Rattle.std.specs.Prelude.{Some, None, Result, Ok, Err, ℤ}
use Rattle.decimal_digits.specs.Number.{size}
use Rattle.decimal_unsigned.specs.declared.error.ParseError.{ParseError, TheVariants.{Syntax, Memory}}
use Rattle.fixed_decimal.specs.Decimal.{Decimal}
use Rattle.decimal_format.specs.{Readable.IsReadable, Scanning.value_of}
use Rattle.plural_rules.specs.declared.rules.PluralCategory.{PluralCategory}
use Rattle.locale_data.specs.Plurals.{IsCategoryAt}
use Rattle.number_format.specs.{declared.read.{pattern.NumberPattern.NumberPattern, scientific.ExponentForm.ExponentForm}, AffixedTexts.{Reader, AreNamed, shifted, IsSplit}, NumberText.operands_with, ScientificReading.{IsSeparatorApart, ScientificNumeral, exponent_of, IsReadScientific, capped_exponent, HasParts}, AffixedExponents.{signed, IsReadShownExponent}}
use Rattle.number_format.proofs.lemmas.read.{ScientificAffixes.{shown_between, shown_without, shown_by, not_shown}, ScientificParts.{absolute_is, power_is, parts_read, parts_memory}}

module _ (r : Reader) (f : ExponentForm) (bytes : List ℕ) (inline : ℕ) (readable : IsReadable r.symbols)
    (named : AreNamed r.symbols r.patterns) (p : NumberPattern) (middle : List ℕ)
    (inside : IsSplit r.symbols r.patterns None bytes p middle) (apart : IsSeparatorApart r.symbols f.separator.now)
    (v : Decimal) (number : ℤ) (parts : HasParts r.symbols f middle v number) where
  abbrev own : ScientificNumeral
  own = parts.numeral

  -- the significand times the power of ten
  abbrev IsProduct : Result Decimal ParseError → Type 0
  IsProduct result = (e : ℤ) → number ≡ capped_exponent e → result ≡ shifted e (Ok v)

  product_read : (result : Result Decimal ParseError) → IsProduct result
      → IsReadScientific inline r.symbols f middle result
  product_read result is =
      parts_read r.symbols readable f apart middle v number parts inline result (is (exponent_of own) parts.exponent_is)

  pub not_copied : inline < size v.absolute.number → IsReadShownExponent inline r f bytes (Err Memory)
  not_copied long =
      shown_between r f bytes inline readable named p middle inside (Err Memory) (Err Memory)
      (parts_memory r.symbols readable f apart middle v number parts inline long) refl

  -- the pattern is for all numbers
  pub of_any_category : p.category ≡ None → (x : Decimal) → IsProduct (Ok x)
      → IsReadShownExponent inline r f bytes (signed p.sign (Ok x))
  of_any_category any x is =
      shown_without r f bytes inline readable named p middle inside any x (product_read (Ok x) is)

  pub beyond_limits : (e : ParseError) → IsProduct (Err e) → IsReadShownExponent inline r f bytes (Err e)
  beyond_limits e is =
      shown_between r f bytes inline readable named p middle inside (Err e) (Err e) (product_read (Err e) is) refl

  module _ (x : Decimal) (is : IsProduct (Ok x)) (c : PluralCategory)
      (of_parts : IsCategoryAt r.rules (operands_with v.absolute number) c) where
    of_number : IsCategoryAt r.rules (operands_with (value_of own.significand) (exponent_of own)) c
    of_number =
        let absolute = absolute_is own.significand v parts.significand_is in
        let power = power_is v x (exponent_of own) parts.valid (sym (is (exponent_of own) parts.exponent_is)) in
        let exponent = parts.exponent_is ∙ power in
        subst (λ o. IsCategoryAt r.rules o c) (λ i. operands_with (absolute i) (exponent i)) of_parts

    pub own_category : (q : NumberPattern) (text : List ℕ) → IsSplit r.symbols r.patterns (Some c) bytes q text
        → IsReadShownExponent inline r f bytes (signed p.sign (Ok x))
    own_category q text split =
        let shown = shown_by r f bytes inline readable named p middle inside apart own parts.text c of_number q text
        split in
        shown_between r f bytes inline readable named p middle inside (Ok x) (signed p.sign (Ok x))
        (product_read (Ok x) is) (inl (shown, refl))

    pub other_category :
        ((q : NumberPattern) (text : List ℕ) → ¬ IsSplit r.symbols r.patterns (Some c) bytes q text)
        → IsReadShownExponent inline r f bytes (Err Syntax)
    other_category none =
        let other = not_shown r f bytes inline readable named p middle inside apart own parts.text c of_number none in
        shown_between r f bytes inline readable named p middle inside (Ok x) (Err Syntax) (product_read (Ok x) is)
        (inr (other, refl))
