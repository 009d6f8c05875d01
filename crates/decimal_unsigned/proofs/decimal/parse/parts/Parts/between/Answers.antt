use Rattle.std.proofs.{Common.arith, lemmas.Grind.common_steps}
use Rattle.decimal_unsigned.proofs.lemmas.parse.{GrammarParts.{digits_within, digits_left, digits_right}, Middle.middle_written}
use Rattle.decimal_unsigned.proofs.decimal.parse.parts.Parts.between.Goals as goal

pub returns-clause-whole : goal.returns-clause-whole
returns-clause-whole c = grind (arith, digits_within, digits_left, common_steps)

pub returns-clause-fraction : goal.returns-clause-fraction
returns-clause-fraction c = grind (arith, digits_within, digits_right, common_steps)

pub returns-clause-value : goal.returns-clause-value
returns-clause-value c = grind (arith, middle_written, common_steps)
