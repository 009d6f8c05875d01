use Rattle.std.proofs.Common.{◌≡◌, inl, inr, refl, sym, ◌∙◌, ap, subst}
use Rattle.std.specs.Prelude.{Option, Some, None, IfSome}
use Rattle.decimal_format.specs.Symbols.{Symbols}
use Rattle.locale_data.specs.declared.compact.CompactStyle.{CompactStyle}
use Rattle.number_format.specs.{declared.{format.formatter.NumberFormatter.NumberFormatter, options.NumberNotation.NumberNotation, read.scientific.ExponentForm.ExponentForm}, AffixedTexts.Reader, NumberReading.{CanReadExponents, CanReadNotation, CanReadWords, words_of}, ScientificReading.{IsSeparatorApart, exponent_form}}
use Rattle.number_format.proofs.lemmas.read.CompactTexts.{no_form}
use Rattle.number_format.proofs.format.formatter.NumberFormatter.reader.Goals as goal

abbrev IsApart : Symbols → Option ExponentForm → Type 0
IsApart s x = IfSome x (λ form. IsSeparatorApart s form.separator.now)

apart_by : (f : NumberFormatter) (x : Option ExponentForm) → CanReadExponents f x → IsApart f.style.symbols x
apart_by f (Some form) can = can.1.separator
apart_by f None can = absurd can

-- a notation with words has no exponents
words_by : (f : NumberFormatter) (w : Option CompactStyle) → words_of f ≡ w → CanReadWords f w
    → IsApart f.style.symbols (exponent_form f f.options.notation)
words_by f (Some style) words can =
    subst (IsApart f.style.symbols) (sym (no_form f f.options.notation f.options.style style words)) tt
words_by f None words can = absurd can

-- the separator of exponents that can be read is apart
is_apart : (f : NumberFormatter) → CanReadNotation f → IsApart f.style.symbols (exponent_form f f.options.notation)
is_apart f (inl standard) =
    subst (λ (n : NumberNotation). IsApart f.style.symbols (exponent_form f n)) (sym standard) tt
is_apart f (inr (inl can)) = apart_by f (exponent_form f f.options.notation) can
is_apart f (inr (inr can)) = words_by f (words_of f) refl can

pub invariant_of-result : goal.invariant_of-result
invariant_of-result c =
    let f = c.args.self.now in
    let symbols : c.new-reader.result.symbols ≡ f.style.symbols =
    ap (λ (r : Reader). r.symbols) c.new-reader.ensures ∙ c.copied.ensures in (
      c.in-Ok.ensures.count,
      subst (λ (x : Option ExponentForm). IsApart c.new-reader.result.symbols x) (sym c.of-exponent.ensures)
          (subst (λ (s : Symbols). IsApart s (exponent_form f f.options.notation)) (sym symbols)
          (is_apart f c.in_ok-shift.ensures.ok.0.0)),
    )
