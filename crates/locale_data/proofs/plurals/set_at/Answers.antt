use Rattle.std.proofs.Common.{Some, ap, sym, ◌∙◌}
use Rattle.std.specs.Option.{option_map}
use Rattle.locale_data.specs.{declared.tables.rows.plurals.LanguageRules.LanguageRules, Plurals.{set_of, indexed_set}}
use Rattle.locale_data.proofs.lemmas.locales.IndexedRows.{at_some, at_none}
use Rattle.locale_data.proofs.plurals.set_at.Goals as goal

pub returns-in_default : goal.returns-in_default
returns-in_default c = sym (ap (λ o. indexed_set o c.args.id.rule_type) c.in_default.is)

pub returns-in-Some-get : goal.returns-in-Some-get
returns-in-Some-get c =
    let language = c.in-Some-get.language in
    let set = λ (l : LanguageRules). set_of l c.args.id.rule_type in
    let at = at_some _ _ c.languages.ensures c.in-Some.index language c.in-Some-get.ensures.lookup in
    ap Some c.set_of.ensures
    ∙ sym (ap (λ o. indexed_set o c.args.id.rule_type) c.in-Some.is ∙ ap (option_map set) at)

pub returns-in-None : goal.returns-in-None
returns-in-None c =
    let set = λ (l : LanguageRules). set_of l c.args.id.rule_type in
    let at = at_none _ _ c.languages.ensures c.in-Some.index c.in-None.ensures.lookup in
    sym (ap (λ o. indexed_set o c.args.id.rule_type) c.in-Some.is ∙ ap (option_map set) at)
