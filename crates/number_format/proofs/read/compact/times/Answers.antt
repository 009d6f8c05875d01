use Rattle.std.proofs.{Common.{◌∙◌, Ok, ap, arith, w16, w32, to_z, of_z, FitsSigned}, lemmas.Int.{ints, to_z-of_z}}
use Rattle.number_format.specs.AffixedTexts.{shifted}
use Rattle.number_format.proofs.read.compact.times.Goals as goal

pub returns : goal.returns
returns g c =
    let e = c.args.pattern.now.exponent in
    let small = c.requires in
    let wide : FitsSigned w32 e = omega (arith, ints) in
    let narrow : FitsSigned w16 e = omega (arith, ints) in
    c.shifted.ensures
    ∙ ap (λ z. shifted z (Ok c.args.value))
    (ap (λ z. to_z w16 (of_z w16 z)) (to_z-of_z w32 e wide) ∙ to_z-of_z w16 e narrow)
