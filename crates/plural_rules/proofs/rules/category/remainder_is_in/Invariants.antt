use Rattle.std.proofs.Common.{◌≡◌, drop}
use Rattle.std.specs.List.{list_any}
use Rattle.plural_rules.specs.Rules.{in_range}
use Rattle.plural_rules.proofs.rules.category.remainder_is_in.Given as goal

abbrev pub invariant-loop-range : goal.invariant-loop-range
invariant-loop-range l =
    list_any (in_range l.remainder) l.ranges ≡ list_any (in_range l.remainder) (drop l.range-index l.ranges)
