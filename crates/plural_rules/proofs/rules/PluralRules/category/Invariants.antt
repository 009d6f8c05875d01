use Rattle.std.proofs.Common.{◌≡◌, drop}
use Rattle.plural_rules.specs.Rules.{category_of}
use Rattle.plural_rules.proofs.rules.PluralRules.category.Given as goal

abbrev pub invariant-loop-rule : goal.invariant-loop-rule
invariant-loop-rule g l = category_of l.self l.number ≡ category_of (drop l.rule-index l.rules) l.number
