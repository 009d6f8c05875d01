use Rattle.std.proofs.Common.{◌≡◌, Ok, Err, sym, subst, rules}
use Rattle.std.specs.Prelude.{IsSomeAnd}
use Rattle.locale_data.specs.Plurals.{rules_text_at, IsRulesText, HasNoRules}
use Rattle.fixed_decimal_c.specs.{declared.error.FdError.TheVariants.UnknownLocale, Locales.IsNamedRulesNumber}
use Rattle.fixed_decimal_c.proofs.lemmas.locales.NumberedRules.{named_have_number}
use Rattle.fixed_decimal_c.proofs.locales.number_of_named_rules.Goals as goal

pub returns-in-Some-plural_rules_id : goal.returns-in-Some-plural_rules_id
returns-in-Some-plural_rules_id c =
    let is = c.in-Some.ensures.tag in
    let names = sym c.in-Some.ensures.rule_type in
    let rule_type = c.in-Some.rule_type in
    let found = c.in-Some-plural_rules_id.rules in
    let same : c.in-Ok.word.now ≡ c.args.word.now = search rules in
    let of_tag = subst (λ t. IsSomeAnd (rules_text_at found) (IsRulesText t rule_type)) is
    c.in-Some-plural_rules_id.ensures.found in
    subst (IsNamedRulesNumber (Ok c.number_of_rules.result)) same
    (named_have_number c.in-Ok.word.now rule_type found c.number_of_rules.result names c.number_of_rules.ensures.value
    of_tag)

pub returns-in-None : goal.returns-in-None
returns-in-None c =
    let is = c.in-Some.ensures.tag in
    let names = sym c.in-Some.ensures.rule_type in
    let same : c.in-Ok.word.now ≡ c.args.word.now = search rules in
    subst (IsNamedRulesNumber (Err UnknownLocale)) same
    (c.in-Some.rule_type, names, subst HasNoRules is c.in-None.ensures.unknown)
