-- A text is that of the significand and the exponent that were read of it.
use Rattle.std.proofs.{Common.{◌≡◌, ℕ, ◌<◌, Bool, true, false, inl, inr, List, refl, sym, ◌∙◌, ap, subst, arith}, lemmas.{Bool.cases_lt, Int.{ints, clamps}}}
use Rattle.std.specs.Prelude.{if◌then◌else◌, Result, Ok, Err, ok_or, ℤ, pos, negsuc}
use Rattle.decimal_digits.specs.Number.{size}
use Rattle.decimal_unsigned.specs.{Unsigned.{Unsigned, IsValue}, declared.error.ParseError.{ParseError, TheVariants.{Limit, Memory}}}
use Rattle.fixed_decimal.specs.Decimal.{Decimal, with_absolute}
use Rattle.decimal_format.specs.{Symbols.Symbols, Readable.IsReadable, Reading.Numeral, Scanning.value_of}
use Rattle.number_format.specs.{declared.read.scientific.ExponentForm.ExponentForm, AffixedTexts.shifted, ScientificReading.{IsSeparatorApart, ScientificNumeral, exponent_of, IsScientificNumeral, is_beyond_limits, numeral_value, scientific_value, IsReadScientific, capped_exponent, HasParts}}
use Rattle.number_format.proofs.lemmas.{format.OuterChoices.beyond, read.ScientificUnique.{one_significand, one_exponent}}

value_if : (w : Numeral) (v : Decimal) (beyond : Bool)
    → (if beyond then Err Limit else Ok (record { sign = w.sign; absolute = value_of w })) ≡ Ok v
    → v.absolute ≡ value_of w
value_if w v true e = absurd (cc)
value_if w v false e =
    let same : v ≡ record { sign = w.sign; absolute = value_of w } = cc in ap (λ (d : Decimal). d.absolute) same

-- the value of digits that are within the limits
pub absolute_is : (w : Numeral) (v : Decimal) → numeral_value w ≡ Ok v → v.absolute ≡ value_of w
absolute_is w v e = value_if w v (is_beyond_limits w) e

-- a value is not multiplied by a power of ten beyond the limits
pub power_is : (v x : Decimal) (e : ℤ) → IsValue v.absolute → shifted e (Ok v) ≡ Ok x → capped_exponent e ≡ e
power_is v x (pos n) valid is = elim (cases_lt 32767 n) [
  | inl far ↦
      let none = beyond v.absolute (pos n) valid (inr (omega (arith, ints, far))) in
      absurd (let no : Err Limit ≡ Ok x = sym (ap (λ m. ok_or (with_absolute v m) Limit) none) ∙ is in cc)
  | inr near ↦ grind (arith, ints, clamps)
]
power_is v x (negsuc n) valid is = elim (cases_lt 32767 n) [
  | inl far ↦
      let none = beyond v.absolute (negsuc n) valid (inl (omega (arith, ints, far))) in
      absurd (let no : Err Limit ≡ Ok x = sym (ap (λ m. ok_or (with_absolute v m) Limit) none) ∙ is in cc)
  | inr near ↦ grind (arith, ints, clamps)
]

module _ (s : Symbols) (readable : IsReadable s) (f : ExponentForm) (apart : IsSeparatorApart s f.separator.now)
    (bytes : List ℕ) (v : Decimal) (number : ℤ) (parts : HasParts s f bytes v number) (inline : ℕ) where
  abbrev own : ScientificNumeral
  own = parts.numeral

  same_value : (w : ScientificNumeral) → IsScientificNumeral s f bytes w → scientific_value own ≡ scientific_value w
  same_value w n =
      let significand = one_significand s readable f apart bytes own w parts.text n in
      let exponent = one_exponent s readable f apart bytes own w parts.text n in
      λ i. shifted (exponent i) (numeral_value (significand i))

  -- the significand times the power of ten is what is read
  pub parts_read : (result : Result Decimal ParseError) → result ≡ shifted (exponent_of own) (Ok v)
      → IsReadScientific inline s f bytes result
  parts_read result is = record {
    found = λ other. (own, parts.text);
    value = λ w n.
        inl (is ∙ ap (shifted (exponent_of own)) (sym parts.significand_is) ∙ same_value w n);
  }

  -- a significand of many digits was not copied
  pub parts_memory : inline < size v.absolute.number → IsReadScientific inline s f bytes (Err Memory)
  parts_memory long = record {
    found = λ other. (own, parts.text);
    value = λ w n.
        let significand = one_significand s readable f apart bytes own w parts.text n in
        let absolute = absolute_is own.significand v parts.significand_is ∙ ap value_of significand in
        inr (refl, subst (λ (a : Unsigned). inline < size a.number) absolute long);
  }
