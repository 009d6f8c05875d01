use Rattle.std.proofs.Common.{◌≡◌, drop}
use Rattle.locale_names.specs.declared.tables.units.TheConstants.{UNITS}
use Rattle.number_skeleton.specs.Units.{index_joined}
use Rattle.number_skeleton.proofs.units.unit_joined.Given as goal

abbrev pub invariant-loop-index : goal.invariant-loop-index
invariant-loop-index l =
    index_joined l.first l.second UNITS 0 ≡ index_joined l.first l.second (drop l.index UNITS) l.index
