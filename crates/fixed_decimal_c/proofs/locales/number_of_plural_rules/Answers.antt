use Rattle.std.proofs.Common.{◌≡◌, subst, rules}
use Rattle.std.specs.Prelude.{IsSomeAnd}
use Rattle.locale_data.specs.Plurals.{rules_text_at, IsRulesText, HasNoRules}
use Rattle.fixed_decimal_c.proofs.lemmas.locales.NumberedRules.{rules_have_number}
use Rattle.fixed_decimal_c.proofs.locales.number_of_plural_rules.Goals as goal

pub returns-in-Some-plural_rules_id : goal.returns-in-Some-plural_rules_id
returns-in-Some-plural_rules_id c =
    let found = c.in-Some-plural_rules_id.rules in
    let rule_type = c.in-Some.rule_type in
    let same : c.in-Ok.tag.now ≡ c.args.tag.now = search rules in
    rules_have_number c.args.tag.now c.args.code rule_type found c.number_of_rules.result c.in-Some.ensures.some
    c.number_of_rules.ensures.value
    (subst (λ t. IsSomeAnd (rules_text_at found) (IsRulesText t rule_type)) same
    c.in-Some-plural_rules_id.ensures.found)

pub returns-in-None : goal.returns-in-None
returns-in-None c = λ _.
    let same : c.in-Ok.tag.now ≡ c.args.tag.now = search rules in
    subst HasNoRules same c.in-None.ensures.unknown
