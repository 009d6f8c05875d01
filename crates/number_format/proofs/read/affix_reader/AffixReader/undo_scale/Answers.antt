use Rattle.std.proofs.{Common.{◌≡◌, ◌∙◌, ap, arith, w16, to_z, of_z, FitsSigned, rules}, lemmas.Int.ints}
use Rattle.number_format.specs.AffixedTexts.{shifted}
use Rattle.number_format.proofs.read.affix_reader.AffixReader.undo_scale.Goals as goal

pub returns : goal.returns
returns g c =
    let fits : FitsSigned w16 c.self.inside.shift = search rules in
    let same : to_z w16 (of_z w16 c.self.inside.shift) ≡ c.self.inside.shift = omega (arith, ints, fits) in
    let shift : c.self.inside.shift ≡ c.args.self.now.shift = cc in
    c.shifted.ensures ∙ ap (λ z. shifted z c.args.read) (same ∙ shift)
