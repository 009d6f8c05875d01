use Rattle.locale_data.proofs.lemmas.tables.RulesTexts.{rules_of_tag}
use Rattle.locale_data.proofs.plurals.plural_rules_of.Goals as goal

pub returns-in-Some : goal.returns-in-Some
returns-in-Some c =
    rules_of_tag c.args.tag.now c.args.rule_type c.in-Some.id c.in-Some.ensures.found c.plural_rules_at.result
    c.plural_rules_at.ensures
