use Rattle.std.proofs.Common.{◌≡◌, drop}
use Rattle.std.specs.List.{list_all}
use Rattle.plural_rules.specs.Rules.{holds}
use Rattle.plural_rules.proofs.rules.category.all_hold.Given as goal

abbrev pub invariant-loop-relation : goal.invariant-loop-relation
invariant-loop-relation g l =
    list_all (holds l.number) l.relations ≡ list_all (holds l.number) (drop l.relation-index l.relations)
