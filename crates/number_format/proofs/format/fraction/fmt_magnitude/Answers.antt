use Rattle.std.proofs.{Common.arith, Output.has_written_styled_append}
use Rattle.number_format.proofs.format.fraction.fmt_magnitude.Goals as goal

pub returns : goal.returns
returns g c = grind (arith, has_written_styled_append)
