use Rattle.number_format.proofs.lemmas.read.ScientificShown.{shown_reads}
use Rattle.number_format.proofs.laws.scientific_texts_read_back.Goals as goal

pub returns : goal.returns
returns c = λ inline s f g v e result can valid small is read.
    shown_reads s f g v valid e can small is inline result read
