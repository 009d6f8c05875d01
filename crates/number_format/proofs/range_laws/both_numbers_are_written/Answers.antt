use Rattle.number_format.proofs.lemmas.range.RangeEnds.{both_written}
use Rattle.number_format.proofs.range_laws.both_numbers_are_written.Goals as goal

pub returns : goal.returns
returns c = both_written
