-- A text is that of one number with an exponent.
use Rattle.std.proofs.{Common.{◌≡◌, ℕ, true, false, List, ◌++◌, length, sym, ◌∙◌, ap, subst}, lemmas.List.{append_cancel_left, append_cancel_right}}
use Rattle.decimal_format.specs.{Symbols.Symbols, Readable.IsReadable, Reading.{IsNumeral, digits_text, separated_by}}
use Rattle.decimal_format.proofs.lemmas.reader.{NumeralLaws.texts_by, Scans.sign-unique}
use Rattle.number_format.specs.{declared.read.scientific.ExponentForm.ExponentForm, ScientificReading.{IsSeparatorApart, ScientificNumeral, IsScientificNumeral, exponent_of, exponent_number}}
use Rattle.number_format.proofs.lemmas.read.{ScientificExponents.{some_digits, digits_begin}, ScientificScans.{same_rest, plain-unique}, ScientificTexts.{separator_ends, unsigned}}

module _ (s : Symbols) (readable : IsReadable s) (f : ExponentForm) (apart : IsSeparatorApart s f.separator.now)
    (bytes : List ℕ) (v w : ScientificNumeral) (n : IsScientificNumeral s f bytes v)
    (m : IsScientificNumeral s f bytes w) where
  one_rest : f.separator.now ++ n.back ≡ f.separator.now ++ m.back
  one_rest =
      let x = v.significand in
      let y = w.significand in
      same_rest s readable (separated_by s n.significand.strategy (length x.whole))
      (separated_by s m.significand.strategy (length y.whole)) x y (f.separator.now ++ n.back)
      (f.separator.now ++ m.back) n.significand.digits m.significand.digits
      (separator_ends s f.separator.now n.back apart) (separator_ends s f.separator.now m.back apart)
      (ap (λ l. l ++ (f.separator.now ++ n.back)) (sym (unsigned s n.front x n.significand n.unsigned))
      ∙ sym n.text ∙ m.text
      ∙ ap (λ l. l ++ (f.separator.now ++ m.back)) (unsigned s m.front y m.significand m.unsigned))

  pub one_significand : v.significand ≡ w.significand
  one_significand =
      let front : n.front ≡ m.front =
      append_cancel_right n.front m.front (f.separator.now ++ m.back)
      (ap (λ l. n.front ++ l) (sym one_rest) ∙ sym n.text ∙ m.text) in
      (texts_by true s readable m.front).unique v.significand w.significand
      (subst (λ l. IsNumeral s l v.significand) front n.significand) m.significand

  pub one_exponent : exponent_of v ≡ exponent_of w
  one_exponent =
      let back = append_cancel_left f.separator.now n.back m.back one_rest in
      let x = n.exponent in
      let y = m.exponent in
      let same = sign-unique s readable v.sign w.sign (digits_text s (λ _. false) v.exponent)
      (digits_text s (λ _. false) w.exponent)
      (λ _. digits_begin s v.exponent (some_digits f.options v.exponent x.least) x.digits)
      (λ _. digits_begin s w.exponent (some_digits f.options w.exponent y.least) y.digits)
      (sym x.text ∙ back ∙ y.text) in
      let digits = plain-unique s readable v.exponent w.exponent x.digits y.digits same.1 in
      λ i. exponent_number (same.0 i) (digits i)
