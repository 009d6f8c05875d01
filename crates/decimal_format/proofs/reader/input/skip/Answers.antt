use Rattle.std.proofs.Common.{arith}
use Rattle.decimal_format.proofs.lemmas.reader.NormalForms.{drop_next}
use Rattle.decimal_format.proofs.reader.input.skip.Goals as goal

pub loop-preserved : goal.loop-preserved
loop-preserved g c = grind (arith, drop_next)
