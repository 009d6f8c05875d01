use Rattle.number_format.proofs.lemmas.read.CompactPatterns.{AllBelow, IsToldFrom}
use Rattle.number_format.proofs.format.formatter.NumberFormatter.clash_of_index.Given as goal

abbrev pub invariant-loop-other : goal.invariant-loop-other
invariant-loop-other l = AllBelow (IsToldFrom l.self l.style l.key) l.other
