use Rattle.std.proofs.{Common.{◌∙◌, w16, w32, FitsSigned, rules}, lemmas.Int.to_z-of_z}
use Rattle.std.specs.Prelude.{None}
use Rattle.number_format.proofs.format.formatter.NumberFormatter.word_name.Goals as goal

pub returns : goal.returns
returns c =
    let magnitude_fits : FitsSigned w16 c.args.key.magnitude = search rules in
    let exponent_fits : FitsSigned w32 c.exponent_at.result = search rules in
    let exponent = to_z-of_z w32 c.exponent_at.result exponent_fits ∙ simp to_z-of_z at c.exponent_at.ensures.value in
    λ i. record { category = None; sign = c.args.key.sign; exponent = exponent i }
