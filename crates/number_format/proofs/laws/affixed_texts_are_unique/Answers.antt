use Rattle.number_format.proofs.lemmas.read.AffixedNumbers.{named_texts_are_unique}
use Rattle.number_format.proofs.laws.affixed_texts_are_unique.Goals as goal

pub returns : goal.returns
returns c = λ r text v w readable named. named_texts_are_unique r named readable text v w
