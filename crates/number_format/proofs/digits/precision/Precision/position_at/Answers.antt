use Rattle.std.proofs.{Common.{refl, arith, rules, w16, w32, FitsSigned}, lemmas.Int.{ints, clamps, to_z-of_z}}
use Rattle.number_format.proofs.digits.precision.Precision.position_at.Goals as goal

pub returns-clause-position : goal.returns-clause-position
returns-clause-position c =
    let first_fits : FitsSigned w16 c.args.first = search rules in
    let position_fits : FitsSigned w32 c.position.result = search rules in
    let is = simp to_z-of_z at c.position.ensures.position in
    let most = simp to_z-of_z at c.position.ensures.at_most in
    let least = c.position.ensures.at_least in
    let low = c.if-position-gt32767.false in
    let max = c.max.ensures.value in
    (omega (arith, ints, clamps), omega (arith, ints, clamps))

pub returns-then-position-gt32767-clause-position : goal.returns-then-position-gt32767-clause-position
returns-then-position-gt32767-clause-position c =
    let first_fits : FitsSigned w16 c.args.first = search rules in
    let position_fits : FitsSigned w32 c.position.result = search rules in
    let is = simp to_z-of_z at c.position.ensures.position in
    let most = simp to_z-of_z at c.position.ensures.at_most in
    let high = c.if-position-gt32767.true in
    (refl, omega (arith, ints, clamps))

pub returns-then-position-gt32767-clause-within : goal.returns-then-position-gt32767-clause-within
returns-then-position-gt32767-clause-within c = λ zero.
    let first_fits : FitsSigned w16 c.args.first = search rules in
    let position_fits : FitsSigned w32 c.position.result = search rules in
    let most = simp to_z-of_z at c.position.ensures.at_most in
    let high = c.if-position-gt32767.true in
    absurd (omega (arith, ints, clamps))

pub overflow_add-position : goal.overflow_add-position
overflow_add-position c =
    let first_fits : FitsSigned w16 c.args.first = search rules in
    let position_fits : FitsSigned w32 c.position.result = search rules in
    let most = simp to_z-of_z at c.position.ensures.at_most in
    let least = c.position.ensures.at_least in
    omega (arith, ints, clamps)

pub overflow_cast-result : goal.overflow_cast-result
overflow_cast-result c =
    let first_fits : FitsSigned w16 c.args.first = search rules in
    let position_fits : FitsSigned w32 c.position.result = search rules in
    let most = simp to_z-of_z at c.position.ensures.at_most in
    let least = c.position.ensures.at_least in
    let low = c.if-position-gt32767.false in
    let max = c.max.ensures.value in
    omega (arith, ints, clamps)

pub returns-clause-within : goal.returns-clause-within
returns-clause-within c = λ zero. refl
