use Rattle.std.proofs.{Common.arith, lemmas.Grind.common_steps}
use Rattle.fixed_decimal.proofs.lemmas.integer.CompactTexts.{same_fields}
use Rattle.fixed_decimal.proofs.compact.CompactDecimal.has_same_fields.Goals as goal

pub returns-then-has_same_text : goal.returns-then-has_same_text
returns-then-has_same_text c = grind (arith, same_fields, common_steps)

pub returns-else-has_same_text : goal.returns-else-has_same_text
returns-else-has_same_text c = grind (arith, same_fields, common_steps)
