use Rattle.std.proofs.Common.{sym, ◌∙◌, ap}
use Rattle.std.specs.Prelude.{not}
use Rattle.number_format.proofs.lemmas.read.WholeTexts.{is_off}
use Rattle.number_format.proofs.format.formatter.NumberFormatter.is_of_kind.Goals as goal

pub returns-then-has_number : goal.returns-then-has_number
returns-then-has_number c = (
  λ t. sym c.has_number_in-own.ensures ∙ t ∙ sym c.if-has_number.true,
  λ e. c.has_number_in-own.ensures ∙ e ∙ c.if-has_number.true,
)

pub returns : goal.returns
returns c = (
  λ t. sym c.has_number_in-own.ensures ∙ is_off c.has_number_in-own.result t ∙ sym c.if-has_number.false,
  λ e. ap not (c.has_number_in-own.ensures ∙ e ∙ c.if-has_number.false),
)
