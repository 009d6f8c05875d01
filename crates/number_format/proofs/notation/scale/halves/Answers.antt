use Rattle.std.proofs.{Common.{arith, rules, w32, FitsSigned}, lemmas.Int.{ints, clamps, to_z-of_z}}
use Rattle.number_format.proofs.notation.scale.halves.Goals as goal

pub overflow_sub-count : goal.overflow_sub-count
overflow_sub-count c =
    let fits : FitsSigned w32 c.args.exponent = search rules in
    let min = simp to_z-of_z at c.min.ensures.value in
    omega (arith, ints, clamps)

pub overflow_cast-count : goal.overflow_cast-count
overflow_cast-count c =
    let fits : FitsSigned w32 c.args.exponent = search rules in
    let min = simp to_z-of_z at c.min.ensures.value in
    omega (arith, ints, clamps)

pub returns-clause-sum : goal.returns-clause-sum
returns-clause-sum c =
    let fits : FitsSigned w32 c.args.exponent = search rules in
    let min = simp to_z-of_z at c.min.ensures.value in
    omega (arith, ints, clamps)

pub returns-clause-few : goal.returns-clause-few
returns-clause-few c =
    let fits : FitsSigned w32 c.args.exponent = search rules in
    let min = simp to_z-of_z at c.min.ensures.value in
    (omega (arith, ints, clamps), omega (arith, ints, clamps))
