use Rattle.number_format.specs.CompactReading.{key_at, word_pattern, HasMeaningOf}
use Rattle.number_format.proofs.lemmas.read.CompactPatterns.{AllBelow}
use Rattle.number_format.proofs.format.formatter.NumberFormatter.has_one_meaning.Given as goal

abbrev pub invariant-loop-index : goal.invariant-loop-index
invariant-loop-index l =
    AllBelow (λ i. HasMeaningOf l.self l.style (word_pattern l.self l.style l.key) (key_at i)) l.index
