use Rattle.std.proofs.{Common.{arith, rules, w16, FitsSigned}, lemmas.Int.{ints, clamps, to_z-of_z}}
use Rattle.number_format.proofs.format.compact.undivided_magnitude.Goals as goal

pub returns : goal.returns
returns g c =
    let first = c.nonzero_magnitude_start-first in
    let first_fits : FitsSigned w16 first.result = search rules in
    let value = first.ensures.value in
    let min = simp to_z-of_z at c.min.ensures.value in
    omega (arith, ints, clamps)

pub overflow_add-first : goal.overflow_add-first
overflow_add-first g c =
    let first_fits : FitsSigned w16 c.nonzero_magnitude_start-first.result = search rules in
    omega (arith, ints)

pub overflow_cast-result : goal.overflow_cast-result
overflow_cast-result g c =
    let first_fits : FitsSigned w16 c.nonzero_magnitude_start-first.result = search rules in
    let min = simp to_z-of_z at c.min.ensures.value in
    omega (arith, ints, clamps)
