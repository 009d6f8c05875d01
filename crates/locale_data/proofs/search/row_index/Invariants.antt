use Rattle.std.proofs.Common.{◌<◌, length, take}
use Rattle.std.specs.Prelude.{IfSome}
use Rattle.locale_data.specs.{Rows.row_at, SortedRows.IsPadded, Tag.compared}
use Rattle.locale_data.proofs.lemmas.search.LongestRow.{IsLongestBelow}
use Rattle.locale_data.proofs.search.row_index.Given as goal

abbrev pub invariant-loop-end : goal.invariant-loop-end
invariant-loop-end g l = record {
  longest : IsLongestBelow g.R.Row.name l.rows l.tag l.end (row_at l.rows l.found);
  padded : IsPadded l.padded (compared (take l.end l.tag));
  inside : IfSome l.found (λ i. i < length l.rows);
}
