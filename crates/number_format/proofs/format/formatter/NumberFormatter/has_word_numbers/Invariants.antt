use Rattle.std.proofs.Common.{◌*◌}
use Rattle.number_format.specs.CompactReading.{HaveNumbersBelow}
use Rattle.number_format.proofs.format.formatter.NumberFormatter.has_word_numbers.Given as goal

abbrev pub invariant-loop-row : goal.invariant-loop-row
invariant-loop-row l = HaveNumbersBelow l.self l.style (l.row * 216)
