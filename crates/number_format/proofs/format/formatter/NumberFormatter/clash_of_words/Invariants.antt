use Rattle.number_format.specs.CompactReading.{IsIndexApart}
use Rattle.number_format.proofs.lemmas.read.CompactPatterns.{AllBelow}
use Rattle.number_format.proofs.format.formatter.NumberFormatter.clash_of_words.Given as goal

abbrev pub invariant-loop-index : goal.invariant-loop-index
invariant-loop-index l = AllBelow (IsIndexApart l.self l.style) l.index
