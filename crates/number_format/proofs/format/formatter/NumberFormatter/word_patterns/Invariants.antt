use Rattle.std.proofs.Common.{◌*◌}
use Rattle.number_format.specs.CompactReading.{AreFirstPatterns}
use Rattle.number_format.proofs.format.formatter.NumberFormatter.word_patterns.Given as goal

abbrev pub invariant-loop-row : goal.invariant-loop-row
invariant-loop-row l = AreFirstPatterns l.self l.style l.has_number (l.row * 216) l.patterns.items
