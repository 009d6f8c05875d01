use Rattle.std.proofs.{Common.arith, lemmas.Grind.common_steps}
use Rattle.plural_rules.proofs.rules.category.all_hold.Goals as goal

pub returns-then-not-holds : goal.returns-then-not-holds
returns-then-not-holds g c = grind (arith, common_steps)

pub loop-relation-preserved : goal.loop-relation-preserved
loop-relation-preserved g c = grind (arith, common_steps)

pub returns : goal.returns
returns g c = grind (arith, common_steps)
