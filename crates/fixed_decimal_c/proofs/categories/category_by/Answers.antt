use Rattle.std.proofs.Common.{rules, ◌≡◌, Some, inl}
use Rattle.std.specs.Prelude.{IsSome}
use Rattle.plural_rules.specs.Operands.{plain}
use Rattle.locale_data.specs.Plurals.{rules_text_at, IsCategoryAt}
use Rattle.fixed_decimal_c.specs.Locales.{rules_of}
use Rattle.fixed_decimal_c.proofs.categories.category_by.Goals as goal

pub returns-in-Some-plural_category_at : goal.returns-in-Some-plural_category_at
returns-in-Some-plural_category_at c =
    let listed : rules_of c.args.number ≡ Some c.in-Some.rules = search rules in
    let some : IsSome (rules_text_at c.in-Some.rules) = search rules in
    let category = c.in-Some-plural_category_at.category in
    let is : IsCategoryAt c.in-Some.rules (plain c.in_ok-value.value.absolute) category = search rules in
    inl (c.in-Some.rules, listed, some, rw c.in_ok-value.ensures.found (category, is, search rules))
