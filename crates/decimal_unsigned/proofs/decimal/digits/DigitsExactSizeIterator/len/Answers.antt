use Rattle.std.proofs.{Common.arith, lemmas.Grind.common_steps}
use Rattle.decimal_unsigned.proofs.lemmas.text.ShownDigits.{length-left}
use Rattle.decimal_unsigned.proofs.decimal.digits.DigitsExactSizeIterator.len.Goals as goal

pub returns-clause-value : goal.returns-clause-value
returns-clause-value g c = grind (arith, length-left, common_steps)
