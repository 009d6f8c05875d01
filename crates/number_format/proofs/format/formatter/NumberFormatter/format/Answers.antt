use Rattle.std.proofs.Common.{subst, sym, refl}
use Rattle.number_format.specs.{FormattedNumbers.{formatted_number_pieces, ChoosesWhole, IsShownNumber}, NumberText.AreNumberPieces}
use Rattle.number_format.proofs.format.formatter.NumberFormatter.format.Goals as goal

pub returns-in-Ok-shown_number_or_unchanged-clause-pieces :
    goal.returns-in-Ok-shown_number_or_unchanged-clause-pieces
returns-in-Ok-shown_number_or_unchanged-clause-pieces c =
    let v = c.args.value in
    let number = c.number-number in
    let shown = c.in-Ok-shown_number_or_unchanged.shown in
    let same = number.ensures.formatter in
    subst (λ f. AreNumberPieces f v (formatted_number_pieces c.choose.new.self)) same
    (c.choose.ensures v
    (subst (λ f. IsShownNumber f v number.result.value shown) (sym same)
    (subst (λ d. IsShownNumber c.args.self.now v d shown) (sym number.ensures.value)
    c.in-Ok-shown_number_or_unchanged.ensures.ok))
    (subst (λ f. ChoosesWhole f v c.in-Ok.whole) (sym same) c.in-Ok.ensures.ok))

pub returns-in-Ok-shown_number_or_unchanged-clause-text :
    goal.returns-in-Ok-shown_number_or_unchanged-clause-text
returns-in-Ok-shown_number_or_unchanged-clause-text c = (
  formatted_number_pieces c.choose.new.self,
  returns-in-Ok-shown_number_or_unchanged-clause-pieces c,
  refl,
)
