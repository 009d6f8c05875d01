use Rattle.std.proofs.{Common.arith, lemmas.Grind.common_steps}
use Rattle.decimal_unsigned.specs.Reading.{after_fraction}
use Rattle.decimal_unsigned.proofs.decimal.parse.parts.after_fraction.Goals as goal

pub returns-in-101 : goal.returns-in-101
unfolding after_fraction
returns-in-101 c = grind (arith, common_steps)
