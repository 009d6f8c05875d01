use Rattle.std.proofs.{Common.arith, Math.Nat.pow-le-pow_right, lemmas.Grind.common_steps}
use Rattle.decimal_digits.proofs.rounding.last_two.write_number.Goals as goal

pub returns-then-places-max_places-clause-full : goal.returns-then-places-max_places-clause-full
returns-then-places-max_places-clause-full g c = grind (arith, pow-le-pow_right, common_steps)
