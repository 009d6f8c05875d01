use Rattle.std.proofs.{Common.{sym, ◌∙◌, ap, refl, arith}, lemmas.Grind.common_steps}
use Rattle.plural_rules.specs.Rules.{category_of}
use Rattle.plural_rules.proofs.rules.PluralRules.category.Goals as goal

pub loop-rule-init : goal.loop-rule-init
loop-rule-init g c =
    ap (λ rules. category_of rules c.args.number.now) (sym c.self.view_is)
    ∙ (rw c.as_slice-rules.ensures.value refl)

pub returns-then-is_met : goal.returns-then-is_met
returns-then-is_met g c = grind (arith, common_steps)

pub loop-rule-preserved : goal.loop-rule-preserved
loop-rule-preserved g c = grind (arith, common_steps)

pub returns : goal.returns
returns g c = grind (arith, common_steps)
