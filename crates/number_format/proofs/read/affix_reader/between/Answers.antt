use Rattle.std.proofs.{Common.{◌≡◌, ◌++◌, List, ℕ, sym, ◌∙◌, subst}, lemmas.List.{append_cancel_left, append_cancel_right}}
use Rattle.std.specs.Prelude.{IsTrue}
use Rattle.decimal_format.specs.{Readable.{BeginsWithDigit, EndsWithDigit}, Symbols.Symbols}
use Rattle.number_format.specs.{declared.read.pattern.NumberPattern.NumberPattern, AffixedTexts.IsBetween}
use Rattle.number_format.proofs.read.affix_reader.between.Goals.{else-ends_with_digit-via-then-ends_with_digit+else-begins_with_digit, else-ends_with_digit-via-else-ends_with_digit}
use Rattle.number_format.proofs.read.affix_reader.between.Goals as goal

-- only what was cut out can be between the affixes
module _ (s : Symbols) (pattern : NumberPattern) (text p q m : List ℕ) (prefix : p ≡ pattern.affixes.prefix)
    (suffix : q ≡ pattern.affixes.suffix) (cut : text ≡ p ++ (m ++ q)) (n : List ℕ)
    (b : IsBetween s text pattern n) where
  same : n ≡ m
  same =
      let a = pattern.affixes in
      append_cancel_right n m a.suffix
      (append_cancel_left a.prefix (n ++ a.suffix) (m ++ a.suffix)
      (sym b.is ∙ cut ∙ (λ i. prefix i ++ (m ++ suffix i))))

  digits : BeginsWithDigit s m × EndsWithDigit s m
  digits = (subst (BeginsWithDigit s) same b.begins, subst (EndsWithDigit s) same b.ends)

pub returns : goal.returns
returns c = λ middle b.
    let both = digits c.args.symbols.now c.args.pattern.now c.args.text.now _ _ c.in_ok-middle.middle.now
    (c.as_bytes.ensures.value ∙ c.texts-affixes.ensures.prefix)
    (c.as_bytes-2.ensures.value ∙ c.texts-affixes.ensures.suffix) c.in_ok-middle.ensures middle b in
    elim c.else-ends_with_digit.branch [
      | else-ends_with_digit-via-then-ends_with_digit+else-begins_with_digit w ↦
          let t : IsTrue w.begins_with_digit.result = w.begins_with_digit.ensures.1 both.0 in
          absurd (cc (t, w.if-begins_with_digit.false))
      | else-ends_with_digit-via-else-ends_with_digit w ↦
          let t : IsTrue c.ends_with_digit.result = c.ends_with_digit.ensures.1 both.1 in
          absurd (cc (t, w.if-ends_with_digit.false))
    ]
