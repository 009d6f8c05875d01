use Rattle.std.proofs.Common.{◌≡◌, drop}
use Rattle.locale_names.specs.declared.tables.units.TheConstants.{UNITS}
use Rattle.number_skeleton.specs.Identifiers.{other_length, longest_name}
use Rattle.number_skeleton.proofs.identifiers.unit_length.Given as goal

abbrev pub invariant-loop-index : goal.invariant-loop-index
invariant-loop-index l =
    longest_name l.text (other_length l.text) UNITS ≡ longest_name l.text l.longest (drop l.index UNITS)
