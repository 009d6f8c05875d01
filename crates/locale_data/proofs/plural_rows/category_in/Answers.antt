use Rattle.std.proofs.{Common.{refl, arith}, lemmas.Grind.common_steps}
use Rattle.locale_data.proofs.plural_rows.category_in.Goals as goal

pub loop-rule-init : goal.loop-rule-init
loop-rule-init g c = rw c.part-rows.ensures refl

pub returns-then-is_met : goal.returns-then-is_met
returns-then-is_met g c = grind (arith, common_steps)

pub loop-rule-preserved : goal.loop-rule-preserved
loop-rule-preserved g c = grind (arith, common_steps)

pub returns : goal.returns
returns g c = grind (arith, common_steps)
