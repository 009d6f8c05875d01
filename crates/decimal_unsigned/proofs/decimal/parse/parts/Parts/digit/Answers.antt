use Rattle.std.proofs.{Common.arith, lemmas.{Grind.common_steps, List.length-map}}
use Rattle.decimal_unsigned.proofs.lemmas.parse.GrammarParts.{writes_at}
use Rattle.decimal_unsigned.proofs.decimal.parse.parts.Parts.digit.Goals as goal

pub overflow_sub-result : goal.overflow_sub-result
overflow_sub-result c = grind (arith, writes_at, length-map, common_steps)

pub returns : goal.returns
returns c = grind (arith, writes_at, length-map, common_steps)
