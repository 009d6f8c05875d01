use Rattle.std.proofs.{Common.arith, lemmas.Grind.common_steps}
use Rattle.decimal_unsigned.proofs.lemmas.parse.GrammarParts.{numeral_more, digits_step}
use Rattle.decimal_unsigned.proofs.decimal.parse.parts.numeral.Goals as goal

pub loop-byte-preserved : goal.loop-byte-preserved
loop-byte-preserved c = grind (arith, digits_step, numeral_more, common_steps)
