use Rattle.std.proofs.{Common.arith, lemmas.Grind.common_steps}
use Rattle.decimal_digits.proofs.rounding.round_digits.keep_leading.Goals as goal

pub returns-then-last-eq0 : goal.returns-then-last-eq0
returns-then-last-eq0 g c = grind (arith, common_steps)

pub returns-else-keep-gt0 : goal.returns-else-keep-gt0
returns-else-keep-gt0 g c = grind (arith, common_steps)
