use Rattle.std.proofs.Common.{arith, length-append}
use Rattle.decimal_format.proofs.lemmas.formatter.Lengths.{length-absolute}
use Rattle.decimal_format.proofs.formatter.text.FormattedAbsoluteWriteable.writeable_length_hint.Goals as goal

pub returns-clause-value : goal.returns-clause-value
returns-clause-value g c = grind (arith, length-absolute, length-append)
