use Rattle.number_format.proofs.lemmas.range.RangeEnds.{equal_are_approximate}
use Rattle.number_format.proofs.range_laws.equal_numbers_are_approximate.Goals as goal

pub returns : goal.returns
returns c = equal_are_approximate
