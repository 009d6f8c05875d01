use Rattle.std.proofs.{Common.{◌∙◌, sym, arith, w16, w32, FitsSigned, rules}, lemmas.Int.{ints, to_z-of_z}}
use Rattle.std.specs.Prelude.{pos, ◌-ℤ◌}
use Rattle.number_format.proofs.format.formatter.NumberFormatter.is_same_before.Goals as goal

pub returns : goal.returns
returns c = λ t.
    let fits : FitsSigned w16 c.args.magnitude = search rules in
    let from = c.requires in
    let low : FitsSigned w16 (c.args.magnitude -ℤ pos 1) = omega (arith, ints) in
    let exponent_fits : FitsSigned w32 c.exponent_at-exponent.result = search rules in
    let other_fits : FitsSigned w32 c.exponent_at.result = search rules in
    let own = simp to_z-of_z at c.words_at.ensures in
    let before = simp to_z-of_z at c.words_at-2.ensures in
    let exponent = simp to_z-of_z at c.exponent_at-exponent.ensures.value in
    let other = simp to_z-of_z at c.exponent_at.ensures.value in
    let same = simp to_z-of_z at c.are_same_powers.ensures in
    (sym own ∙ c.are_same_rows.ensures c.if-not-are_same_rows.false ∙ before, sym exponent ∙ same.0 t ∙ other)
