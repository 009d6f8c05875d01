use Rattle.number_format.specs.CompactReading.{AreFirstPatterns}
use Rattle.number_format.proofs.format.formatter.NumberFormatter.push_words.Given as goal

abbrev pub invariant-loop-index : goal.invariant-loop-index
invariant-loop-index l = AreFirstPatterns l.self l.style l.has_number l.index l.patterns.items
