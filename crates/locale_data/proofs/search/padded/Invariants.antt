use Rattle.std.proofs.Common.{take}
use Rattle.locale_data.specs.{Tag.compared, SortedRows.IsPadded}
use Rattle.locale_data.proofs.search.padded.Given as goal

abbrev pub invariant-loop-index : goal.invariant-loop-index
invariant-loop-index l = IsPadded l.padded (compared (take l.index l.name))
