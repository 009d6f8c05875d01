use Rattle.std.proofs.{Common.arith, lemmas.{Grind.common_steps, List.{map_more, append_assoc}}}
use Rattle.decimal_digits.proofs.lemmas.digits.DigitTexts.{ascii_at}
use Rattle.decimal_digits.proofs.digits.DigitStore.push_text.Goals as goal

pub overflow_sub-ascii : goal.overflow_sub-ascii
overflow_sub-ascii g c = (ascii_at _ c.requires.are_digits _ c.loop-ascii-test.true).1

pub push_in_room-requires-clause-is_digit : goal.push_in_room-requires-clause-is_digit
push_in_room-requires-clause-is_digit g c = omega (arith, ascii_at _ c.requires.are_digits _ c.loop-ascii-test.true)

pub loop-ascii-preserved : goal.loop-ascii-preserved
loop-ascii-preserved g c = grind (arith, ascii_at, append_assoc, map_more, common_steps)
