use Rattle.std.proofs.{Common.{◌≡◌, ◌∙◌, false, nat_eq, drop, arith}, lemmas.Grind.common_steps}
use Rattle.std.specs.{Prelude.codes, List.starts_with}
use Rattle.locale_names.proofs.lemmas.units.PerTexts.{per_from-tail}
use Rattle.locale_names.proofs.units.per_index.Goals as goal

pub loop-index-preserved : goal.loop-index-preserved
loop-index-preserved c =
    let i = c.loop-index.index in
    let text = c.args.text.now in
    let none : starts_with nat_eq (drop i text) (codes "-per-") ≡ false = grind (arith, common_steps) in
    c.loop-index.invariant ∙ per_from-tail text i c.loop-index-test.true none
