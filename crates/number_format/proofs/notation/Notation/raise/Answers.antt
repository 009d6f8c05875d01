use Rattle.std.proofs.{Common.{◌*◌, ◌^◌, ◌∙◌, ap, arith, rules, w16, w32, FitsSigned}, lemmas.Int.{ints, clamps, to_z-of_z}}
use Rattle.std.specs.Prelude.{pos}
use Rattle.fixed_decimal.proofs.Calling.{below_limit}
use Rattle.number_format.proofs.lemmas.notation.Scales.{raised_first, raised_twice}
use Rattle.number_format.proofs.notation.Notation.raise.Goals as goal

pub raise-requires-2-clause-low : goal.raise-requires-2-clause-low
raise-requires-2-clause-low g c =
    let n = c.args.value.now.number in
    let m_fits : FitsSigned w16 c.nonzero_magnitude_start.result = search rules in
    let e_fits : FitsSigned w32 c.exponent_at-exponent.result = search rules in
    let low = simp to_z-of_z at c.exponent_at-exponent.ensures.at_least in
    let sum = simp to_z-of_z at c.halves-half.ensures.sum in
    let is = c.nonzero_magnitude_start.ensures.value in
    let moved =
    raised_first n c.halves-half.result.0 (below_limit c.args.value.now (pos 0) c.nonzero_magnitude_start.ensures.valid)
    (omega (arith, ints, clamps)) in
    rw c.raise.ensures (omega (arith, ints, clamps))

pub returns-clause-number : goal.returns-clause-number
returns-clause-number g c =
    let e_fits : FitsSigned w32 c.exponent_at-exponent.result = search rules in
    let sum = simp to_z-of_z at c.halves-half.ensures.sum in
    let min = c.min.ensures.value in
    c.raise-2.ensures ∙ ap (λ k. k * 10 ^ c.halves-half.result.1) c.raise.ensures
    ∙ raised_twice c.args.value.now.number c.halves-half.result.0 c.halves-half.result.1 _
    (omega (arith, ints, clamps, sum, min))
