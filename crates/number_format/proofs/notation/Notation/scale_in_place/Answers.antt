use Rattle.std.proofs.{Common.{◌∙◌, ap, arith, rules, w32, FitsSigned}, lemmas.Int.{ints, to_z-of_z}}
use Rattle.number_format.specs.ShownDigits.{shown}
use Rattle.number_format.proofs.lemmas.notation.Scales.{scaled-some}
use Rattle.number_format.proofs.notation.Notation.scale_in_place.Goals as goal

pub overflow_add-result : goal.overflow_add-result
overflow_add-result g c =
    omega (arith, ints, c.raise-base.ensures.at_least, c.raise-base.ensures.at_most, c.in_ok-exponent.ensures.at_most)

pub returns-clause-ok : goal.returns-clause-ok
returns-clause-ok g c =
    let o = c.args.options.now in
    let base = c.raise-base.result in
    let last_fits : FitsSigned w32 c.in_ok-exponent.last = search rules in
    let least = c.raise-base.ensures.at_least in
    let most = c.raise-base.ensures.at_most in
    let few = c.in_ok-exponent.ensures.at_most in
    scaled-some c.args.self.now o c.args.value.now base c.raise-base.new.value.number _ c.raise-base.ensures.exponent
    c.raise-base.ensures.number c.in_ok-exponent.ensures.settles c.in_ok-lower.ensures.fits
    (record { sign = c.settle.new.value.sign; absolute = c.cut_and_pad.new.value }) _ c.in_ok-exponent.ensures.sign
    (simp to_z-of_z at c.cut_and_pad.ensures.value ∙ ap (λ n. shown o n c.in_ok-exponent.last) c.in_ok-lower.ensures.ok)
    (omega (arith, ints))
