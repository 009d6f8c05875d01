use Rattle.number_format.proofs.lemmas.range.RangeEnds.{apart_are_alone}
use Rattle.number_format.proofs.range_laws.numbers_apart_are_written_as_alone.Goals as goal

pub returns : goal.returns
returns c = apart_are_alone
