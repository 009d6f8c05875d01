use Rattle.number_format.proofs.lemmas.read.FormatterTexts.{standard}
use Rattle.number_format.proofs.laws.standard_notation_is_read.Goals as goal

pub returns : goal.returns
returns c = standard
