use Rattle.number_format.proofs.lemmas.read.{CompactOwn.LacksTexts, CompactPatterns.AllBelow}
use Rattle.number_format.proofs.read.compact.CompactReader.has_texts_of.Given as goal

abbrev pub invariant-loop-index : goal.invariant-loop-index
invariant-loop-index l = AllBelow (LacksTexts l.self.0 l.self.1 l.pattern l.key) l.index
