use Rattle.number_format.proofs.lemmas.read.ScientificBodies.{number_written}
use Rattle.number_format.proofs.laws.exponents_are_written_by_their_form.Goals as goal

pub returns : goal.returns
returns c = λ n form h auto shown. number_written n.formatter.now form h auto n.value.absolute n.exponent shown
