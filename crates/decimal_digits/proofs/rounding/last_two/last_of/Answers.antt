use Rattle.std.proofs.Common.{arith}
use Rattle.decimal_digits.proofs.lemmas.rounding.Leading.{last_digit}
use Rattle.decimal_digits.proofs.rounding.last_two.last_of.Goals as goal

pub returns-then-keep-len-clause-value : goal.returns-then-keep-len-clause-value
returns-then-keep-len-clause-value g c = grind (arith, last_digit)

pub returns-else-keep-gt0-clause-value : goal.returns-else-keep-gt0-clause-value
returns-else-keep-gt0-clause-value g c = grind (arith, last_digit)
