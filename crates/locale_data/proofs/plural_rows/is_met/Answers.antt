use Rattle.std.proofs.{Common.{refl, arith}, lemmas.Grind.common_steps}
use Rattle.locale_data.proofs.plural_rows.is_met.Goals as goal

pub loop-relations-init : goal.loop-relations-init
loop-relations-init g c = rw c.part-rows.ensures refl

pub returns-then-all_hold : goal.returns-then-all_hold
returns-then-all_hold g c = grind (arith, common_steps)

pub loop-relations-preserved : goal.loop-relations-preserved
loop-relations-preserved g c = grind (arith, common_steps)

pub returns : goal.returns
returns g c = grind (arith, common_steps)
