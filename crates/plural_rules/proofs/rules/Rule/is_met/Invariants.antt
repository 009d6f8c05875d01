use Rattle.std.proofs.Common.{◌≡◌, drop, map}
use Rattle.std.specs.List.{list_any, list_all}
use Rattle.plural_rules.specs.Rules.{holds, is_met}
use Rattle.plural_rules.proofs.rules.Rule.is_met.Given as goal

abbrev pub invariant-loop-relations : goal.invariant-loop-relations
invariant-loop-relations g l =
    is_met l.number l.self
    ≡ list_any (list_all (holds l.number)) (map (λ relations. relations.items) (drop l.relations-index l.alternatives))
