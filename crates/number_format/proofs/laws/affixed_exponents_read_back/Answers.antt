use Rattle.number_format.proofs.lemmas.read.ScientificAffixes.{affixed_reads}
use Rattle.number_format.proofs.laws.affixed_exponents_read_back.Goals as goal

pub returns : goal.returns
returns c = affixed_reads
