use Rattle.std.proofs.{Common.arith, lemmas.Grind.common_steps}
use Rattle.decimal_digits.proofs.lemmas.rounding.Leading.{leading_carry}
use Rattle.decimal_digits.proofs.rounding.carry.carry_out.Goals as goal

pub returns-then-places-max_places-clause-full : goal.returns-then-places-max_places-clause-full
returns-then-places-max_places-clause-full g c = grind (arith, leading_carry, common_steps)

pub returns-clause-value : goal.returns-clause-value
returns-clause-value g c = rw c.replace_by_digit.ensures.digits (grind (arith, leading_carry, common_steps))
