use Rattle.std.proofs.Common.{◌≡◌, w16, to_z, of_z, ◌∙◌}
use Rattle.fixed_decimal.proofs.Calling.{narrow_kept}
use Rattle.decimal_format.specs.Parts.{magnitude_of}
use Rattle.decimal_format.proofs.lemmas.formatter.Parts.{digits_from}
use Rattle.decimal_format.proofs.formatter.FormattedAbsolute.copy_digits.Goals as goal

pub returns : goal.returns
returns g c =
    let f = c.args.self.now in
    let is : to_z w16 (of_z w16 c.magnitude.result) ≡ magnitude_of f c.args.below =
    narrow_kept {z = c.magnitude.result} c.magnitude.type_inv ∙ c.magnitude.ensures.value in
    let number : c.self.inside.value.now.number ≡ f.value.number = cc in
    digits_from f c.args.below _ _ c.write_digits.new.buffer is number c.write_digits.ensures.value
