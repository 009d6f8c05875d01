use Rattle.std.proofs.Common.{Some, None, subst}
use Rattle.std.specs.{Prelude.IsSomeAnd, Option.option_map}
use Rattle.locale_data.specs.Plurals.{text_of, indexed_set, IsRulesText, HasNoRules}
use Rattle.locale_data.proofs.lemmas.tables.{EachRow.{locales_are_table, languages_are_table}, RulesTexts.{language_found, locale_found}}
use Rattle.locale_data.proofs.plurals.plural_rules_id.Goals as goal

pub row_index-requires : goal.row_index-requires
row_index-requires c = rw c.languages.ensures languages_are_table

pub row_index-requires-2 : goal.row_index-requires-2
row_index-requires-2 c = rw c.locales.ensures locales_are_table

pub returns-in-Some-clause-found : goal.returns-in-Some-clause-found
returns-in-Some-clause-found c =
    let tag = c.as_bytes-tag.result.now in
    subst (λ t. IsSomeAnd (option_map text_of (indexed_set (Some c.in-Some.index) c.args.rule_type))
    (IsRulesText t c.args.rule_type))
    c.as_bytes-tag.ensures.value
    (language_found tag c.args.rule_type c.in-Some.index (rw c.languages.ensures at c.in-Some.ensures.value)
    (rw c.languages.ensures at c.in-Some.ensures.inside))

pub returns-in-Some-row_index-clause-found : goal.returns-in-Some-row_index-clause-found
returns-in-Some-row_index-clause-found c =
    let tag = c.as_bytes-tag.result.now in
    let locale = c.in-Some-row_index in
    subst (λ t. IsSomeAnd (option_map text_of (indexed_set None c.args.rule_type)) (IsRulesText t c.args.rule_type))
    c.as_bytes-tag.ensures.value
    (locale_found tag c.args.rule_type locale.field-0 (rw c.languages.ensures at c.in_default.ensures.value)
    (rw c.locales.ensures at locale.ensures.value) (rw c.locales.ensures at locale.ensures.inside))

pub returns-in-None-clause-unknown : goal.returns-in-None-clause-unknown
returns-in-None-clause-unknown c =
    subst HasNoRules c.as_bytes-tag.ensures.value (
      rw c.languages.ensures at c.in_default.ensures.value,
      rw c.locales.ensures at c.in-None.ensures.value,
    )
