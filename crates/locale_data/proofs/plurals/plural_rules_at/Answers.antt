use Rattle.std.proofs.Common.{Err, subst, sym}
use Rattle.plural_rules.specs.RulesParseResult.{IsParseResult}
use Rattle.locale_data.proofs.lemmas.tables.RulesTexts.{parsing_succeeds}
use Rattle.locale_data.proofs.plurals.plural_rules_at.Goals as goal

pub returns-in-Err : goal.returns-in-Err
returns-in-Err c =
    let text = c.in-Some.text.now in
    let at = sym c.in-Some.ensures in
    let fails = c.in-Err.ensures.parses in
    let is = parsing_succeeds c.args.id text at c.in-Err.field-0 fails in
    (text, at, subst (λ e. IsParseResult text (Err e)) is fails)
