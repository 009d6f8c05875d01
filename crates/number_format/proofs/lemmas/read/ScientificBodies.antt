-- Numbers with an exponent between other texts.
use Rattle.std.proofs.Common.{◌≡◌, ℕ, ◌<◌, false, true, List, [], ◌∷◌, ◌++◌, length, refl, sym, ◌∙◌, ap, subst, arith, append-nil}
use Rattle.std.specs.{Prelude.{Some, ℤ}, Int.Digits.AllBelowBase}
use Rattle.decimal_unsigned.specs.Unsigned.{Unsigned}
use Rattle.decimal_format.specs.{declared.grouping.GroupingStrategy.TheVariants.Never, Symbols.{Symbols, sign_affixes}, Formatted.absolute_text, Readable.{BeginsWithDigit, EndsWithDigit}, Reading.digits_text}
use Rattle.decimal_format.proofs.lemmas.reader.Scans.{begins-append}
use Rattle.number_format.specs.{declared.{format.formatter.NumberFormatter.NumberFormatter, options.{DecimalSeparatorDisplay.DecimalSeparatorDisplay, NumberNotation.NumberNotation}, read.scientific.ExponentForm.ExponentForm}, FormattedNumbers.{exponent_text, visible_text}, NumberText.{bare_separator, hides_zero, exponent_of, exponent_sign, shown_exponent}, ScientificReading.{exponent_form, ScientificNumeral, IsScientificNumeral, scientific_text}}
use Rattle.number_format.proofs.lemmas.read.{AffixedNumbers.digits_end, NamedAffixes.ends-append, ScientificExponents.some_digits, ScientificTexts.unsigned_begins}

-- ---- A number begins and ends with a digit.

module _ (s : Symbols) where
  exponent_ends : (ds : List ℕ) → 0 < length ds → AllBelowBase 10 ds → EndsWithDigit s (digits_text s (λ _. false) ds)
  exponent_ends [] some all = absurd (omega (arith, some))
  exponent_ends (d ∷ ds) some all = digits_end s (λ _. false) refl d ds all.0 all.1

  pub scientific_begins : (f : ExponentForm) (bytes : List ℕ) (w : ScientificNumeral) → IsScientificNumeral s f bytes w
      → BeginsWithDigit s bytes
  scientific_begins f bytes w n =
      subst (BeginsWithDigit s) (sym n.text)
      (begins-append s n.front (f.separator.now ++ n.back)
      (unsigned_begins s n.front w.significand n.significand n.unsigned))

  pub scientific_ends : (f : ExponentForm) (bytes : List ℕ) (w : ScientificNumeral) → IsScientificNumeral s f bytes w
      → EndsWithDigit s bytes
  scientific_ends f bytes w n =
      let some = some_digits f.options w.exponent n.exponent.least in
      let back : EndsWithDigit s n.back =
      subst (EndsWithDigit s) (sym n.exponent.text)
      (ends-append s (sign_affixes s w.sign).prefix (digits_text s (λ _. false) w.exponent)
      (exponent_ends w.exponent some n.exponent.digits)) in
      subst (EndsWithDigit s) (sym n.text)
      (ends-append s n.front (f.separator.now ++ n.back) (ends-append s f.separator.now n.back back))

-- ---- What a formatter writes.

form_same : (x y : ExponentForm) → Some x ≡ Some y → x ≡ y
form_same x y e = cc

exponent_written : (f : NumberFormatter) (notation : NumberNotation) (form : ExponentForm)
    → exponent_form f notation ≡ Some form → (e : ℤ)
    → exponent_text f (exponent_of notation e)
    ≡ form.separator.now ++ ((sign_affixes f.style.symbols (exponent_sign form.options.sign e)).prefix
    ++ absolute_text f.style.symbols Never (shown_exponent form.options e).absolute)
exponent_written f NumberNotation.Standard form h e = absurd (cc)
exponent_written f (NumberNotation.Compact words) form h e = absurd (cc)
exponent_written f (NumberNotation.Scientific o) form h e =
    ap (λ (x : ExponentForm). x.separator.now
    ++ ((sign_affixes f.style.symbols (exponent_sign x.options.sign e)).prefix
    ++ absolute_text f.style.symbols Never (shown_exponent x.options e).absolute))
    (form_same (record { separator = f.separator.text; options = o; is_engineering = false }) form h)
exponent_written f (NumberNotation.Engineering o) form h e =
    ap (λ (x : ExponentForm). x.separator.now
    ++ ((sign_affixes f.style.symbols (exponent_sign x.options.sign e)).prefix
    ++ absolute_text f.style.symbols Never (shown_exponent x.options e).absolute))
    (form_same (record { separator = f.separator.text; options = o; is_engineering = true }) form h)

pub number_written : (f : NumberFormatter) (form : ExponentForm)
    → exponent_form f f.options.notation ≡ Some form
    → f.options.decimal_separator ≡ DecimalSeparatorDisplay.Auto → (v : Unsigned) (e : ℤ)
    → hides_zero f.digits f.options.decimal_separator v ≡ false
    → (visible_text (hides_zero f.digits f.options.decimal_separator v) f.style.symbols f.options.grouping v
    ++ bare_separator f.options.decimal_separator f.style.symbols v)
    ++ exponent_text f (exponent_of f.options.notation e)
    ≡ scientific_text f.style.symbols form f.options.grouping v e
number_written f form h auto v e shown =
    let digits = absolute_text f.style.symbols f.options.grouping v in
    (λ i. (visible_text (shown i) f.style.symbols f.options.grouping v ++ bare_separator (auto i) f.style.symbols v)
    ++ exponent_written f f.options.notation form h e i)
    ∙ ap (λ l. l ++ (form.separator.now ++ ((sign_affixes f.style.symbols (exponent_sign form.options.sign e)).prefix
    ++ absolute_text f.style.symbols Never (shown_exponent form.options e).absolute))) (append-nil digits)
