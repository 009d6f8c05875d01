use Rattle.std.proofs.Common.{sym, ap}
use Rattle.std.specs.Option.{is_some}
use Rattle.conversions.specs.NamedRules.{of_locale}
use Rattle.conversions.proofs.named_rules.parse_rules.Goals as goal

pub returns-in-Ok-plural_rules_of-clause-ok : goal.returns-in-Ok-plural_rules_of-clause-ok
returns-in-Ok-plural_rules_of-clause-ok c =
    let found = c.in-Some.ensures in
    let (text, of, grammar) = c.in-Ok-plural_rules_of.ensures in
    (text, of_locale c.in-Some.rule_type (sym found.rule_type) (rw found.tag at of), grammar)

pub returns-in-Err-UnknownLocale-clause-err : goal.returns-in-Err-UnknownLocale-clause-err
returns-in-Err-UnknownLocale-clause-err c =
    let found = c.in-Some.ensures in
    let unknown = rw (c.in-Err-UnknownLocale.field-0-is, found.tag) at c.in-Err-UnknownLocale.ensures in
    (ap is_some (sym found.rule_type), unknown, rw found.tag at c.of-in-Err-UnknownLocale.ensures)

pub returns-in-Err-Memory-clause-err : goal.returns-in-Err-Memory-clause-err
returns-in-Err-Memory-clause-err c =
    let found = c.in-Some.ensures in
    let (text, of, result) = rw c.in-Err-Memory.field-0-is at c.in-Err-Memory.ensures in
    (text, of_locale c.in-Some.rule_type (sym found.rule_type) (rw found.tag at of), result)
