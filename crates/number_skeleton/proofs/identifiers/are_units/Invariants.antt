use Rattle.std.proofs.Common.{◌≡◌, ◌-◌}
use Rattle.number_skeleton.specs.Identifiers.{are_units}
use Rattle.number_skeleton.proofs.identifiers.are_units.Given as goal

abbrev pub invariant-loop : goal.invariant-loop
invariant-loop l = are_units l.is_mixed l.count l.fn.text ≡ are_units l.is_mixed (l.count - l.counter) l.units
