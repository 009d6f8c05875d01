-- What a formatter writes with an exponent is read back by its reader.
use Rattle.std.proofs.Common.{◌≡◌, ℕ, true, false, List, inl, inr, refl, sym, ◌∙◌, ap, subst}
use Rattle.std.specs.{Prelude.{◌⊎◌, ◌<◌, ◌^◌, Option, Some, None, Result, Ok, Err, pos, unsigned_abs}, List.Contains}
use Rattle.decimal_unsigned.specs.{Unsigned.{Unsigned, IsValue}, declared.error.ParseError.{ParseError, TheVariants.Memory}}
use Rattle.fixed_decimal.specs.{Decimal.Decimal, declared.variations.Sign.Sign}
use Rattle.fixed_decimal.proofs.Calling.{below_limit}
use Rattle.plural_rules.specs.declared.rules.PluralCategory.{PluralCategory}
use Rattle.decimal_format.specs.Scanning.{value_of}
use Rattle.locale_data.specs.Plurals.{IsCategoryAt}
use Rattle.number_format.specs.ScientificReading as scientific
use Rattle.number_format.specs.{declared.{digits.options.DigitOptions.DigitOptions, format.{formatter.NumberFormatter.NumberFormatter, ids.FormatterIds.FormatterIds}, notation.Notation.Notation, options.{DecimalSeparatorDisplay.DecimalSeparatorDisplay, NumberOptions.NumberOptions, NumberNotation.NumberNotation, NumberStyle.NumberStyle}, read.{pattern.NumberPattern.NumberPattern, scientific.ExponentForm.ExponentForm}}, AffixedExponents.{IsReadWithExponent, IsOfExponent}, AffixedTexts.{between, shifted, IsSplit}, Formatters.{IsFormatterAt, IsNotationBy}, NumberReading.{KeepsNotation, CanReadExponents, CanReadWords, CanReadNotation, HasNumbers, CanRead, IsShownAs, pattern_at, patterns_of, reader_of}, NumberText.{IsNumberText, compact_style, exponent_of, needs_no_integer, rounded_in, shown_sign, operands_by, operands_with, outer_operands, whole_number}, Scaled.{ScaledValue, scaled}, ScientificReading.{CanReadExponent, ScientificNumeral, IsScientificNumeral, exponent_form, HasExponentOf, notation_of, scientific_text}}
use Rattle.number_format.proofs.lemmas.{format.PieceTexts.{shows_integer, text-of_digits_and_exponent}, notation.Exponents.exponent_shown, read.{AffixedNumbers.{only_middle, of_category}, FormatterTexts.{IsKeyOf, is_listed, key_of, number_at, some_same, text_between}, ScientificAffixes.affixed_reads, ScientificBodies.{number_written, scientific_begins, scientific_ends}, ScientificShown.{number, numeral, shown_numeral}, ScientificUnique.{one_significand, one_exponent}, ShownValues.{scaled_first, shown_value}, WholeUnits.has_numbers}}
use Rattle.number_format.proofs.lemmas.read.ScientificShown as shown_texts

-- ---- The notation.

form_is : (f : NumberFormatter) (x y : ExponentForm) → Some x ≡ Some y → notation_of x ≡ notation_of y
form_is f x y e = ap notation_of (let same : x ≡ y = cc in same)

-- a notation with exponents has no words
no_words : (f : NumberFormatter) (n : NumberNotation) (style : NumberStyle) (form : ExponentForm)
    → exponent_form f n ≡ Some form → compact_style n style ≡ None
no_words f NumberNotation.Standard style form h = refl
no_words f (NumberNotation.Compact words) style form h = absurd (cc)
no_words f (NumberNotation.Scientific o) style form h = refl
no_words f (NumberNotation.Engineering o) style form h = refl

-- and is that of the form
notation_is : (f : NumberFormatter) (n : NumberNotation) (style : NumberStyle) (form : ExponentForm) (own : Notation)
    → exponent_form f n ≡ Some form → IsNotationBy f.formats n (compact_style n style) own → own ≡ notation_of form
notation_is f NumberNotation.Standard style form own h is = absurd (cc)
notation_is f (NumberNotation.Compact words) style form own h is = absurd (cc)
notation_is f (NumberNotation.Scientific o) style form Notation.Scientific h is =
    form_is f (record { separator = f.separator.text; options = o; is_engineering = false }) form h
notation_is f (NumberNotation.Scientific o) style form Notation.Standard h is = absurd is
notation_is f (NumberNotation.Scientific o) style form Notation.Engineering h is = absurd is
notation_is f (NumberNotation.Scientific o) style form (Notation.Compact table) h is = absurd is
notation_is f (NumberNotation.Engineering o) style form Notation.Engineering h is =
    form_is f (record { separator = f.separator.text; options = o; is_engineering = true }) form h
notation_is f (NumberNotation.Engineering o) style form Notation.Standard h is = absurd is
notation_is f (NumberNotation.Engineering o) style form Notation.Scientific h is = absurd is
notation_is f (NumberNotation.Engineering o) style form (Notation.Compact table) h is = absurd is

-- the category of what is around the whole text is that of the significand with the exponent
operands_are : (f : NumberFormatter) (n : NumberNotation) (form : ExponentForm) → exponent_form f n ≡ Some form
    → (whole : Unsigned) (number : ScaledValue)
    → operands_by n whole number ≡ operands_with number.significand.absolute number.exponent
operands_are f NumberNotation.Standard form h whole number = absurd (cc)
operands_are f (NumberNotation.Compact words) form h whole number = absurd (cc)
operands_are f (NumberNotation.Scientific o) form h whole number = refl
operands_are f (NumberNotation.Engineering o) form h whole number = refl

-- ---- The exponent.

module _ (f : NumberFormatter) (form : ExponentForm) (h : exponent_form f f.options.notation ≡ Some form) where
  can_read : CanReadNotation f → CanReadExponents f (Some form)
  can_read (inl standard) =
      absurd (let none : None ≡ Some form = (λ i. exponent_form f (sym standard i)) ∙ h in cc)
  can_read (inr (inl can)) = subst (CanReadExponents f) h can
  can_read (inr (inr words)) =
      absurd (subst (CanReadWords f) (no_words f f.options.notation f.options.style form h) words)

  -- a number that is rounded has the exponent of the notation
  module _ (own : f.notation ≡ notation_of form) (w : Decimal) (valid : IsValue w.absolute) (x : ScaledValue) where
    exponent_is : (digits : Option DigitOptions) → KeepsNotation digits → rounded_in f.notation digits w ≡ Some x
        → HasExponentOf (notation_of form) x.significand.absolute.number x.exponent
        × (unsigned_abs x.exponent < 2 ^ 32)
    exponent_is None keeps is = absurd keeps
    exponent_is (Some o) keeps is =
        exponent_shown form.is_engineering o w x keeps.1 keeps.0 (below_limit w.absolute (pos 0) valid)
        (subst (λ n. scaled n o w ≡ Some x) own is)

  -- ---- The text.

  formatter_text : (v u : Decimal) (text : List ℕ) → f.options.decimal_separator ≡ DecimalSeparatorDisplay.Auto
      → needs_no_integer f.digits ≡ false → HasNumbers f → (t : IsNumberText f v text) (shown : IsShownAs f v u)
      (key : Option PluralCategory × Sign)
      → IsKeyOf f f.outer t.1.whole (shown_sign f v shown.number.significand) key
      → text ≡ between (pattern_at f key)
      (scientific_text f.style.symbols form f.options.grouping u.absolute shown.number.exponent)
  formatter_text v u text auto integer has t shown key own =
      let e = shown.number.exponent in
      let words = no_words f f.options.notation f.options.style form h in
      text_between f v u text words t (has t.1.whole) shown key own
      ∙ ap (between (pattern_at f key))
      (text-of_digits_and_exponent f u.absolute (exponent_of f.options.notation e)
      ∙ number_written f form h auto u.absolute e
      (shows_integer f.digits f.options.decimal_separator u.absolute integer))

-- the number that a formatter shows, and its text
module _ (ids : FormatterIds) (o : NumberOptions) (f : NumberFormatter) (form : ExponentForm)
    (at : IsFormatterAt ids o f) (h : exponent_form f f.options.notation ≡ Some form) (can : CanRead f) where
  numbers : HasNumbers f
  numbers =
      has_numbers f
      (λ standard. absurd (let none : None ≡ Some form = (λ i. exponent_form f (sym standard i)) ∙ h in cc))
      can.undo.1

  keeps : KeepsNotation f.digits × CanReadExponent f.style.symbols form
  keeps = can_read f form h can.undo.0.0

  own : f.notation ≡ notation_of form
  own =
      notation_is f f.options.notation f.options.style form f.notation h
      (subst (λ (x : NumberOptions). IsNotationBy f.formats x.notation (compact_style x.notation x.style) f.notation)
      (sym at.made.options) at.made.notation_is)

  module _ (v u : Decimal) (valid : IsValue v.absolute) (shown : IsShownAs f v u) where
    has_exponent : HasExponentOf (notation_of form) u.absolute.number shown.number.exponent
        × (unsigned_abs shown.number.exponent < 2 ^ 32)
    has_exponent =
        let first = scaled_first f v shown.number valid shown.number_is in
        let is = exponent_is f form h own first.0 first.1 shown.number f.digits keeps.0 first.2 in (
          subst (λ (x : Unsigned). HasExponentOf (notation_of form) x.number shown.number.exponent)
              (sym shown.absolute) is.0,
          is.1,
        )

    abbrev body : List ℕ
    body = scientific_text f.style.symbols form f.options.grouping u.absolute shown.number.exponent

    abbrev shown_as : ScientificNumeral
    shown_as =
        numeral f.style.symbols form f.options.grouping u.absolute (shown_value f v u valid shown) shown.number.exponent
        keeps.1 has_exponent.1 has_exponent.0

    is_numeral : IsScientificNumeral f.style.symbols form body shown_as
    is_numeral =
        shown_numeral f.style.symbols form f.options.grouping u.absolute (shown_value f v u valid shown)
        shown.number.exponent keeps.1 has_exponent.1 has_exponent.0

    exponent_of_shown : scientific.exponent_of shown_as ≡ shown.number.exponent
    exponent_of_shown =
        shown_texts.exponent_is f.style.symbols form f.options.grouping u.absolute (shown_value f v u valid shown)
        shown.number.exponent keeps.1 has_exponent.1 has_exponent.0

    value_is : u.absolute ≡ value_of shown_as.significand
    value_is =
        (number f.style.symbols form f.options.grouping u.absolute (shown_value f v u valid shown) shown.number.exponent
        keeps.1 has_exponent.1 has_exponent.0).2.absolute

    module _ (text : List ℕ) (t : IsNumberText f v text) where
      key : (key : Option PluralCategory × Sign)
          × IsKeyOf f f.outer t.1.whole (shown_sign f v shown.number.significand) key
      key =
          key_of f (no_words f f.options.notation f.options.style form h) t.1.whole
          (shown_sign f v shown.number.significand) f.outer refl

      abbrev pattern : NumberPattern
      pattern = pattern_at f key.0

      listed : Contains (patterns_of f) pattern
      listed = is_listed f key.0 key.1.listed (number_at f numbers key.0.0)

      sign_is : pattern.sign ≡ u.sign
      sign_is = key.1.sign ∙ sym shown.sign

      text_is : text ≡ between pattern body
      text_is = formatter_text f form h v u text can.undo.0.1 can.undo.0.2 numbers t shown key.0 key.1

      -- it is the pattern of the category
      of_exponent : IsOfExponent f.rules u.absolute shown.number.exponent pattern
      of_exponent =
          let number : t.1.number ≡ shown.number = some_same _ _ (sym t.1.number_is ∙ shown.number_is) in
          let operands : outer_operands f v t.1.number ≡ operands_with u.absolute shown.number.exponent =
          operands_are f f.options.notation form h (whole_number f v) t.1.number
          ∙ (λ i. operands_with (number i).significand.absolute (number i).exponent)
          ∙ ap (λ a. operands_with a shown.number.exponent) (sym shown.absolute) in
          of_category f.rules (operands_with u.absolute shown.number.exponent) t.1.whole
          (subst (λ x. IsCategoryAt f.rules x t.1.whole) operands t.1.of_whole) key.0.0 key.1.allowed

      is_split : IsSplit f.style.symbols (patterns_of f) None text pattern body
      is_split = record {
        listed = listed;
        allowed = tt;
        between = record {
          begins = scientific_begins f.style.symbols form body shown_as is_numeral;
          ends = scientific_ends f.style.symbols form body shown_as is_numeral;
          is = text_is;
        };
      }

      pub reads : (inline : ℕ) (result : Result Decimal ParseError)
          → IsReadWithExponent inline (reader_of f) form text result
          → (result ≡ shifted (reader_of f).shift (shifted shown.number.exponent (Ok u))) ⊎ (result ≡ Err Memory)
      reads inline result read =
          let back = affixed_reads inline (reader_of f) form f.options.grouping pattern u.absolute shown.number.exponent
          result listed keeps.1 (shown_value f v u valid shown) has_exponent.1 has_exponent.0 of_exponent
          (subst (λ t. IsReadWithExponent inline (reader_of f) form t result) text_is read) in
          elim back [
            | inl e ↦ inl (e ∙ ap (λ s. shifted (reader_of f).shift
                (shifted shown.number.exponent (Ok (record { sign = s; absolute = u.absolute })))) sign_is)
            | inr e ↦ inr e
          ]

  -- one text is shown of one number
  pub are_unique : (v w x y : Decimal) (text : List ℕ) (valid : IsValue v.absolute) (valid' : IsValue w.absolute)
      → IsNumberText f v text → IsNumberText f w text → (p : IsShownAs f v x) (q : IsShownAs f w y)
      → (x ≡ y) × (p.number.exponent ≡ q.number.exponent)
  are_unique v w x y text valid valid' a b p q =
      let s = f.style.symbols in
      let second = is_split w y valid' q text b in
      let one = only_middle (reader_of f) text can.readable can.named (pattern v x valid p text a) (body v x valid p)
      (is_split v x valid p text a) (pattern w y valid' q text b) (body w y valid' q) second.listed second.between in
      let v_as = shown_as v x valid p in
      let w_as = shown_as w y valid' q in
      let here : IsScientificNumeral s form (body w y valid' q) v_as =
      subst (λ l. IsScientificNumeral s form l v_as) one.1 (is_numeral v x valid p) in
      let there = is_numeral w y valid' q in
      let text' = body w y valid' q in
      let significand = one_significand s can.readable form keeps.1.separator text' v_as w_as here there in
      let exponent = one_exponent s can.readable form keeps.1.separator text' v_as w_as here there in
      let sign = sym (sign_is v x valid p text a) ∙ one.0.1 ∙ sign_is w y valid' q text b in
      let absolute : x.absolute ≡ y.absolute =
      value_is v x valid p ∙ ap value_of significand ∙ sym (value_is w y valid' q) in (
        (λ i. record { sign = sign i; absolute = absolute i }),
        sym (exponent_of_shown v x valid p) ∙ exponent ∙ exponent_of_shown w y valid' q,
      )
