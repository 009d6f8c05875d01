use Rattle.std.proofs.{Common.arith, lemmas.{Grind.common_steps, List.Sums.prefix_len-drop_yes}}
use Rattle.decimal_unsigned.proofs.decimal.parse.parts.count_digits.Goals as goal

pub loop-i-preserved : goal.loop-i-preserved
loop-i-preserved c = grind (arith, prefix_len-drop_yes, common_steps)
