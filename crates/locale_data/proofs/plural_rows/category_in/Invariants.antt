use Rattle.std.proofs.Common.{◌≡◌, drop, map}
use Rattle.plural_rules.specs.Rules.{category_of}
use Rattle.locale_data.specs.PluralRows.{rule_of, rules_in}
use Rattle.locale_data.proofs.plural_rows.category_in.Given as goal

abbrev pub invariant-loop-rule : goal.invariant-loop-rule
invariant-loop-rule g l =
    category_of (rules_in l.fn.rules) l.number ≡ category_of (map rule_of (drop l.rule-index l.rows)) l.number
