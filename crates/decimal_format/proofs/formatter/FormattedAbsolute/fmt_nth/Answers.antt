use Rattle.std.proofs.{Output.has_written_styled_append, Common.arith}
use Rattle.decimal_format.proofs.formatter.FormattedAbsolute.fmt_nth.Goals as goal

pub returns : goal.returns
returns g c = grind (arith, has_written_styled_append)
