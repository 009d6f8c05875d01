use Rattle.std.proofs.{Common.{◌≡◌, ◌∙◌, false, nat_eq, drop, arith}, lemmas.Grind.common_steps}
use Rattle.std.specs.List.{starts_with}
use Rattle.locale_data.specs.Tag.{compared}
use Rattle.locale_data.proofs.lemmas.search.Tags.{from_first-tail}
use Rattle.locale_data.proofs.tag.from_first.Goals as goal

pub loop-index-preserved : goal.loop-index-preserved
loop-index-preserved c =
    let i = c.loop-index.index in
    let tag = c.args.tag.now in
    let none : starts_with nat_eq (compared (drop i tag)) c.args.text.now ≡ false = grind (arith, common_steps) in
    c.loop-index.invariant ∙ from_first-tail c.args.text.now tag i c.loop-index-test.true none
