use Rattle.std.proofs.Common.{sym, ◌∙◌}
use Rattle.std.specs.Prelude.{Some, if◌then◌else◌}
use Rattle.plural_rules.specs.declared.rules.PluralCategory.{PluralCategory}
use Rattle.number_format.proofs.format.formatter.NumberFormatter.number_key.Goals as goal

pub returns-then-outer : goal.returns-then-outer
returns-then-outer c =
    let has = sym c.outer_at-outer.ensures.has_number ∙ c.if-outer.true in
    sym (λ i. (if has i then c.args.key.0 else Some PluralCategory.Other, c.args.key.1))

pub returns : goal.returns
returns c =
    let none = sym c.outer_at-outer.ensures.has_number ∙ c.if-outer.false in
    sym (λ i. (if none i then c.args.key.0 else Some PluralCategory.Other, c.args.key.1))
