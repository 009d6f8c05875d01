use Rattle.std.proofs.{Common.arith, lemmas.Nat.and_le_l}
use Rattle.decimal_unsigned.proofs.lemmas.from_bcd.BcdNumber.{joined_all}
use Rattle.decimal_unsigned.proofs.decimal.to_integer.number_of_bcd.Goals as goal

pub returns : goal.returns
returns c = joined_all c.args.number c.ranges.number.fits

pub overflow_sub-pairs-2 : goal.overflow_sub-pairs-2
overflow_sub-pairs-2 c = omega (arith, and_le_l)

pub overflow_sub-fours-2 : goal.overflow_sub-fours-2
overflow_sub-fours-2 c = omega (arith, and_le_l)

pub overflow_sub-eights-2 : goal.overflow_sub-eights-2
overflow_sub-eights-2 c = omega (arith, and_le_l)

pub overflow_sub-result-2 : goal.overflow_sub-result-2
overflow_sub-result-2 c = omega (arith, and_le_l)
