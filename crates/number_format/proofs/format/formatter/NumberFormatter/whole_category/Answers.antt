use Rattle.std.proofs.Common.{sym, ◌∙◌, ap, rules}
use Rattle.number_format.specs.{NumberText.{operands_by, operands_with, whole_number}}
use Rattle.number_format.proofs.lemmas.format.OuterChoices.{any_category, if_ok, by_operands, with_exponent}
use Rattle.plural_rules.specs.Operands.{plain}
use Rattle.number_format.proofs.format.formatter.NumberFormatter.whole_category.Goals as goal

pub returns-then-not-has_categories-clause-ok : goal.returns-then-not-has_categories-clause-ok
returns-then-not-has_categories-clause-ok c =
    any_category c.args.self.now c.args.value.now (sym c.has_categories.ensures ∙ search rules)

pub returns-in-Compact-clause-ok : goal.returns-in-Compact-clause-ok
returns-in-Compact-clause-ok c =
    let f = c.args.self.now in
    let v = c.args.value.now in
    if_ok c.undivided_category.result
    (λ category of number shown allowed. by_operands f v number (plain (whole_number f v)) category of
    (ap (λ n. operands_by n (whole_number f v) number) (sym c.in-Compact.is)))
    c.undivided_category.ensures.ok

pub returns-in_default-clause-ok : goal.returns-in_default-clause-ok
returns-in_default-clause-ok c =
    let f = c.args.self.now in
    let v = c.args.value.now in
    if_ok c.exponent_category.result
    (λ category of number shown allowed. by_operands f v number
    (operands_with number.significand.absolute number.exponent) category (of number shown)
    (with_exponent f.options.notation (whole_number f v) number c.in_default.not-Standard c.in_default.not-Compact))
    c.exponent_category.ensures.ok
