use Rattle.std.proofs.{Common.{sym, ◌∙◌, ap, refl, arith}, lemmas.Grind.common_steps}
use Rattle.plural_rules.specs.Rules.{is_met}
use Rattle.plural_rules.proofs.rules.Rule.is_met.Goals as goal

pub loop-relations-init : goal.loop-relations-init
loop-relations-init g c =
    ap (is_met c.args.number.now) (sym c.self.view_is) ∙ (rw c.as_slice-alternatives.ensures.value refl)

pub returns-then-all_hold : goal.returns-then-all_hold
returns-then-all_hold g c = grind (arith, common_steps)

pub loop-relations-preserved : goal.loop-relations-preserved
loop-relations-preserved g c = grind (arith, common_steps)

pub returns : goal.returns
returns g c = grind (arith, common_steps)
