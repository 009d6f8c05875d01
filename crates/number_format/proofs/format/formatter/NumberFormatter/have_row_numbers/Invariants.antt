use Rattle.number_format.specs.CompactReading.{HaveNumbersBelow}
use Rattle.number_format.proofs.format.formatter.NumberFormatter.have_row_numbers.Given as goal

abbrev pub invariant-loop-index : goal.invariant-loop-index
invariant-loop-index l = HaveNumbersBelow l.self l.style l.index
