use Rattle.number_format.proofs.lemmas.read.ReadBack as lemmas
use Rattle.number_format.proofs.laws.scaled_texts_read_back.Goals as goal

pub returns : goal.returns
returns c = lemmas.scaled_texts_read_back
