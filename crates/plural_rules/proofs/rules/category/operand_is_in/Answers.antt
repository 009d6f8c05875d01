use Rattle.std.proofs.{Common.arith, lemmas.Grind.common_steps}
use Rattle.plural_rules.proofs.rules.category.operand_is_in.Goals as goal

pub returns-then-contains : goal.returns-then-contains
returns-then-contains g c = grind (arith, common_steps)

pub loop-range-preserved : goal.loop-range-preserved
loop-range-preserved g c = grind (arith, common_steps)

pub returns : goal.returns
returns g c = grind (arith, common_steps)
