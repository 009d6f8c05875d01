use Rattle.std.proofs.{Common.arith, lemmas.Grind.common_steps}
use Rattle.decimal_unsigned.proofs.lemmas.parse.GrammarParts.{digits_more}
use Rattle.decimal_unsigned.proofs.decimal.parse.parts.are_digits.Goals as goal

pub loop-byte-preserved : goal.loop-byte-preserved
loop-byte-preserved c = grind (arith, digits_more, common_steps)
