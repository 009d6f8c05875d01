use Rattle.std.proofs.{Common.{refl, arith}, lemmas.Grind.common_steps}
use Rattle.locale_data.proofs.plural_rows.all_hold.Goals as goal

pub loop-relation-init : goal.loop-relation-init
loop-relation-init g c = rw c.part-rows.ensures refl

pub returns-then-not-holds : goal.returns-then-not-holds
returns-then-not-holds g c = grind (arith, common_steps)

pub loop-relation-preserved : goal.loop-relation-preserved
loop-relation-preserved g c = grind (arith, common_steps)

pub returns : goal.returns
returns g c = grind (arith, common_steps)
