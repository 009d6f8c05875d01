use Rattle.std.proofs.Common.{◌≡◌, drop}
use Rattle.std.specs.List.{list_any}
use Rattle.plural_rules.specs.Rules.{operand_value, in_range}
use Rattle.plural_rules.proofs.rules.category.operand_is_in.Given as goal

abbrev pub invariant-loop-range : goal.invariant-loop-range
invariant-loop-range g l =
    let is_in = in_range (operand_value l.number l.operand) in
    list_any is_in l.ranges ≡ list_any is_in (drop l.range-index l.ranges)
