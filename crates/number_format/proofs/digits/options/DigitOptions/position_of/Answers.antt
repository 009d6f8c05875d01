use Rattle.std.proofs.{Common.{refl, rules, w16, FitsSigned}, lemmas.Int.to_z-of_z}
use Rattle.number_format.specs.ShownDigits.{base_of}
use Rattle.number_format.proofs.lemmas.digits.Applied.{unit_is}
use Rattle.number_format.proofs.digits.options.DigitOptions.position_of.Goals as goal

pub returns-in-Ok : goal.returns-in-Ok
returns-in-Ok g c =
    let o = c.args.self.now in
    let first = c.nonzero_magnitude_start-first in
    let first_fits : FitsSigned w16 first.result = search rules in
    let position_fits : FitsSigned w16 c.in-Ok.position = search rules in
    record {
      unit =
          simp to_z-of_z
          (unit_is o 0 c.args.value.now first.result c.in-Ok.position (base_of o.precision) first.ensures.value
          (simp to_z-of_z at c.in-Ok.ensures.position) refl first.ensures.valid);
    }
