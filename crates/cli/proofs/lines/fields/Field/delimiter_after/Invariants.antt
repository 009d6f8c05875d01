use Rattle.cli.proofs.lemmas.lines.Separators.{Searched}
use Rattle.cli.proofs.lines.fields.Field.delimiter_after.Given as goal

-- the delimiter is not before this index
abbrev pub invariant-loop-index : goal.invariant-loop-index
invariant-loop-index l = Searched l.self l.line l.start l.index l.outside
