use Rattle.std.proofs.{Common.arith, lemmas.Grind.common_steps}
use Rattle.decimal_digits.proofs.rounding.last_two.last_two_of.Goals as goal

pub returns : goal.returns
returns g c = grind (arith, common_steps)
