use Rattle.std.proofs.{Common.{◌≡◌, ◌∙◌, ap, arith}, lemmas.Grind.common_steps}
use Rattle.std.specs.Prelude.{if◌then◌else◌, nat_lt, Some, option_map}
use Rattle.decimal_digits.specs.Number.{first}
use Rattle.number_format.specs.{Scaled.{settled, settled_with}, ShownDigits.{rounded_with, rounded_within}}
use Rattle.number_format.proofs.{lemmas.notation.Scales.settled_by, notation.Notation.settle.{Given.Over, Goals.After-carried_exponent-next}}
use Rattle.number_format.proofs.notation.Notation.settle.Goals as goal

-- the settled number, by the two exponents and the number that is rounded once
settles : (g : Over) (c : After-carried_exponent-next g) →
    let value = c.args.value.now in
    let e = c.exponent_from_0-exponent.result in
    let next = c.carried_exponent-next.result in
    let once = rounded_with c.args.options.now e value in
    settled c.args.self.now c.args.options.now value.sign value.absolute.number
    ≡ (if nat_lt e next
    then option_map (settled_with next) (rounded_within c.args.options.now value.sign next once.number)
    else Some (settled_with e once))
settles g c =
    let value = c.args.value.now in
    let e = c.exponent_from_0-exponent.result in
    let low = c.nonzero_magnitude_start-first in
    let high = c.nonzero_magnitude_start in
    let is = (c.in_ok-last.ensures).rounds in
    settled_by c.args.self.now c.args.options.now value.sign value.absolute.number e c.carried_exponent-next.result
    (rounded_with c.args.options.now e value) low.result high.result low.type_inv high.type_inv low.ensures.value
    (high.ensures.value ∙ ap first is.number) c.exponent_from_0-exponent.ensures.value
    c.carried_exponent-next.ensures.value is.within

pub returns-clause-settles : goal.returns-clause-settles
returns-clause-settles g c =
    let is = settles g (goal.at.returns-clause-settles g c).After-carried_exponent-next in
    grind (arith, common_steps)

pub returns-then-next-exponent-clause-settles : goal.returns-then-next-exponent-clause-settles
returns-then-next-exponent-clause-settles g c =
    let is = settles g (goal.at.returns-then-next-exponent-clause-settles g c).After-carried_exponent-next in
    let twice = (c.in_ok-last-2.ensures).rounds in
    grind (arith, common_steps)

pub returns-in_err-last-2-clause-limit : goal.returns-in_err-last-2-clause-limit
returns-in_err-last-2-clause-limit g c =
    let is = settles g (goal.at.returns-in_err-last-2-clause-limit g c).After-carried_exponent-next in
    let fails = (c.in_err-last-2.ensures).rounds in
    grind (arith, common_steps)
