use Rattle.std.proofs.Common.{refl, sym, ◌∙◌}
use Rattle.number_format.proofs.format.formatter.NumberFormatter.is_category_read.Goals as goal

pub returns-then-has_number : goal.returns-then-has_number
returns-then-has_number c =
    (λ t none. absurd (let e = sym c.if-has_number.true ∙ c.has_number.ensures ∙ none in cc), λ read. refl)

pub returns : goal.returns
returns c = (
  λ t none. c.is_unit_read.ensures.0 t,
  λ read. c.is_unit_read.ensures.1 (read (sym c.has_number.ensures ∙ c.if-has_number.false)),
)
