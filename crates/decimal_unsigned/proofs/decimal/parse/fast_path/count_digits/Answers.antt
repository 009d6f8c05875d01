use Rattle.std.proofs.{Common.arith, lemmas.Grind.common_steps}
use Rattle.decimal_unsigned.proofs.lemmas.parse.{BcdValues.{read_digit}, GrammarParts.{digit_at_most}}
use Rattle.decimal_unsigned.proofs.decimal.parse.fast_path.count_digits.Goals as goal

pub loop-i-preserved : goal.loop-i-preserved
loop-i-preserved g c = grind (arith, digit_at_most, read_digit, common_steps)
