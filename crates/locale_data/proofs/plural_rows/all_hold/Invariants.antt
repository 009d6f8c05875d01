use Rattle.std.proofs.Common.{◌≡◌, drop, map}
use Rattle.std.specs.List.{list_all}
use Rattle.plural_rules.specs.Rules.{holds}
use Rattle.locale_data.specs.PluralRows.{relation_of, relations_in}
use Rattle.locale_data.proofs.plural_rows.all_hold.Given as goal

abbrev pub invariant-loop-relation : goal.invariant-loop-relation
invariant-loop-relation g l =
    list_all (holds l.number) (relations_in l.fn.relations)
    ≡ list_all (holds l.number) (map relation_of (drop l.relation-index l.rows))
