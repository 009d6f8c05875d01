use Rattle.number_format.specs.{CompactReading.category_at, WholeUnits.IsCategoryRead}
use Rattle.number_format.proofs.lemmas.read.CompactPatterns.{AllBelow}
use Rattle.number_format.proofs.format.formatter.NumberFormatter.category_without_number.Given as goal

abbrev pub invariant-loop-index : goal.invariant-loop-index
invariant-loop-index l = AllBelow (λ i. IsCategoryRead l.self (category_at i)) l.index
