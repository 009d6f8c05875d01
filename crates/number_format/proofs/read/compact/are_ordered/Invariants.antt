use Rattle.number_format.proofs.lemmas.read.{CompactOrder.IsRowOrdered, CompactPatterns.AllBelow}
use Rattle.number_format.proofs.read.compact.are_ordered.Given as goal

abbrev pub invariant-loop-index : goal.invariant-loop-index
invariant-loop-index l = AllBelow (IsRowOrdered l.exponents) l.index
