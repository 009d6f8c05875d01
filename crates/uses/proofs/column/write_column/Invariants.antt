use Rattle.std.proofs.Common.{take}
use Rattle.std.specs.{Prelude.IsOkAnd, Io.KnownBytes.Appends}
use Rattle.uses.specs.Column.{column_text}
use Rattle.uses.proofs.column.write_column.Given as goal

abbrev pub invariant-loop-amount : goal.invariant-loop-amount
invariant-loop-amount g l =
    IsOkAnd (column_text (take l.amount-index l.amounts))
    (Appends (g.W.Sink.contents l.initial.sink) (g.W.Sink.contents l.sink))
