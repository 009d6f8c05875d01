use Rattle.number_format.proofs.lemmas.read.FormattedExponents.{are_unique}
use Rattle.number_format.proofs.laws.formatted_exponents_are_unique.Goals as goal

pub returns : goal.returns
returns c = λ ids o f form v w x y text at h can. are_unique ids o f form at h can v w x y text
