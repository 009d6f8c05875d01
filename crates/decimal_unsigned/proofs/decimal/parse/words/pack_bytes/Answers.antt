use Rattle.std.proofs.{Common.arith, lemmas.Nat.and_le_l}
use Rattle.decimal_unsigned.proofs.lemmas.parse.PlainTexts.{packed_digits}
use Rattle.decimal_unsigned.proofs.decimal.parse.words.pack_bytes.Goals as goal

pub returns : goal.returns
returns c = packed_digits c.args.bytes c.ranges.bytes.fits

pub overflow_sub-pairs-2 : goal.overflow_sub-pairs-2
overflow_sub-pairs-2 c = omega (arith, and_le_l)

pub overflow_sub-fours-2 : goal.overflow_sub-fours-2
overflow_sub-fours-2 c = omega (arith, and_le_l)

pub overflow_sub-result-2 : goal.overflow_sub-result-2
overflow_sub-result-2 c = omega (arith, and_le_l)
