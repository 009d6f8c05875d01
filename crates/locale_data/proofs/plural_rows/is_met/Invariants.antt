use Rattle.std.proofs.Common.{◌≡◌, drop, map}
use Rattle.std.specs.List.{list_any, list_all}
use Rattle.plural_rules.specs.Rules.{holds, is_met}
use Rattle.locale_data.specs.PluralRows.{relations_in, rule_of}
use Rattle.locale_data.proofs.plural_rows.is_met.Given as goal

abbrev pub invariant-loop-relations : goal.invariant-loop-relations
invariant-loop-relations g l =
    is_met l.number (rule_of l.rule)
    ≡ list_any (list_all (holds l.number)) (map relations_in (drop l.relations-index l.rows))
