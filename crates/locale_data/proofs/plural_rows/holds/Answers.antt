use Rattle.std.proofs.Common.{ℕ, Bool, List, Option, ◌∙◌, ap}
use Rattle.plural_rules.specs.{declared.rules.Range.Range, Rules.{relation, modulus_of, holds}}
use Rattle.locale_data.proofs.plural_rows.holds.Goals as goal

pub returns : goal.returns
returns g c =
    let row = c.args.relation.now in
    let value : Option ℕ → List Range → Bool =
    λ modulus ranges. holds c.args.number.now (relation row.operand modulus row.is_equal ranges) in
    c.relation_holds.ensures
    ∙ ap (λ m. value m c.part-ranges.result.now) c.new-modulus.ensures
    ∙ ap (value (modulus_of row.modulus)) c.part-ranges.ensures
