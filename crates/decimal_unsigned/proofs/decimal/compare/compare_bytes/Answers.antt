use Rattle.std.proofs.{Common.arith, lemmas.{Grind.common_steps, List.take_rest}}
use Rattle.decimal_unsigned.proofs.lemmas.decimal.Comparing.{all_below, ends_order}
use Rattle.decimal_unsigned.proofs.decimal.compare.compare_bytes.Goals as goal

pub returns : goal.returns
returns c = grind (arith, take_rest, ends_order, all_below, common_steps)
