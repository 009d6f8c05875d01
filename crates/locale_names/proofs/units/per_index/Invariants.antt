use Rattle.std.proofs.Common.{◌≡◌, drop}
use Rattle.locale_names.specs.Units.{per_from}
use Rattle.locale_names.proofs.units.per_index.Given as goal

abbrev pub invariant-loop-index : goal.invariant-loop-index
invariant-loop-index l = per_from 0 l.text ≡ per_from l.index (drop l.index l.text)
