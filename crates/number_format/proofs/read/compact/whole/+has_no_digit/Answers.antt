use Rattle.std.proofs.Common.{[], refl}
use Rattle.number_format.proofs.lemmas.read.WholeTexts.{no_digit_more}
use Rattle.number_format.proofs.read.compact.whole.+has_no_digit.Goals as goal

pub returns-then-begins_with_digit : goal.returns-then-begins_with_digit
returns-then-begins_with_digit t c = (
  λ on. absurd (cc),
  λ has. absurd (has [] c.args.text.now refl (c.begins_with_digit.ensures.0 c.if-begins_with_digit.true)),
)

pub returns-in-len1-up : goal.returns-in-len1-up
returns-in-len1-up t c =
    no_digit_more c.args.symbols.now c.args.text.now c.has_no_digit.result c.in-len1-up.len_at_least
    (λ begins. let on = c.begins_with_digit.ensures.1 begins in absurd (cc (on, c.if-begins_with_digit.false)))
    c.has_no_digit.ensures
