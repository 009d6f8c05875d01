use Rattle.std.proofs.{Common.{arith, rules, w16, w32, FitsSigned}, lemmas.Int.{ints, to_z-of_z}}
use Rattle.number_format.proofs.lemmas.digits.Applied.{rounded_there, rounding_fails}
use Rattle.number_format.proofs.digits.options.DigitOptions.round_at.Goals as goal

pub returns-in-Err-clause-rounds : goal.returns-in-Err-clause-rounds
returns-in-Err-clause-rounds g c =
    let before = c.nonzero_magnitude_start-before in
    let before_fits : FitsSigned w16 before.result = search rules in
    let position_fits : FitsSigned w16 c.in_ok-position.position = search rules in
    let rounds = simp to_z-of_z at c.in-Err.ensures.rounds in (
      rounding_fails c.args.self.now c.args.exponent c.args.value.now before.result c.in_ok-position.position
          c.base.result before.ensures.value (simp to_z-of_z at c.in_ok-position.ensures.position) c.base.ensures
          before.ensures.valid g.D.DigitStore.L c.in-Err.error (omega (arith, ints, before_fits)) rounds.0,
      rounds.1,
    )

pub returns-clause-rounds : goal.returns-clause-rounds
returns-clause-rounds g c =
    let before = c.nonzero_magnitude_start-before in
    let after = c.nonzero_magnitude_start-after in
    let before_fits : FitsSigned w16 before.result = search rules in
    let after_fits : FitsSigned w16 after.result = search rules in
    let position_fits : FitsSigned w16 c.in_ok-position.position = search rules in
    let last_fits : FitsSigned w32 c.last_shown.result = search rules in
    simp to_z-of_z
    (rounded_there c.args.self.now c.args.exponent c.args.value.now before.result c.in_ok-position.position
    c.base.result before.ensures.value (simp to_z-of_z at c.in_ok-position.ensures.position) c.base.ensures
    before.ensures.valid c.round_counted.new.self after.result c.last_shown.result
    (simp to_z-of_z at c.in_default.ensures.rounds) after.ensures.value (simp to_z-of_z at c.last_shown.ensures))

pub returns-clause-accesses : goal.returns-clause-accesses
returns-clause-accesses g c = λ h. c.in_default.ensures.accesses (λ e. absurd cc)

pub returns-in_err-position-clause-accesses : goal.returns-in_err-position-clause-accesses
returns-in_err-position-clause-accesses g c = λ h. omega arith

pub returns-in_err-position-clause-limit_accesses : goal.returns-in_err-position-clause-limit_accesses
returns-in_err-position-clause-limit_accesses g c = λ h. omega arith

pub returns-in-Err-clause-accesses : goal.returns-in-Err-clause-accesses
returns-in-Err-clause-accesses g c = λ h. c.in-Err.ensures.accesses (λ e. h cc)

pub returns-in-Err-clause-limit_accesses : goal.returns-in-Err-clause-limit_accesses
returns-in-Err-clause-limit_accesses g c = λ e. c.in-Err.ensures.limit_accesses cc

pub returns-clause-limit_accesses : goal.returns-clause-limit_accesses
returns-clause-limit_accesses g c = λ e. absurd cc
