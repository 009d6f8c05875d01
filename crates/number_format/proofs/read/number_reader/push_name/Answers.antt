use Rattle.std.proofs.{Common.arith, lemmas.Grind.common_steps}
use Rattle.number_format.proofs.read.number_reader.push_name.Goals as goal

pub returns : goal.returns
returns c = grind (arith, common_steps)
