use Rattle.std.proofs.{Common.arith, lemmas.{Grind.common_steps, Int.ints}}
use Rattle.decimal_unsigned.proofs.lemmas.{decimal.Values.counted, text.Lengths.{length-text_whole, length-text_dotted, text_short}}
use Rattle.decimal_unsigned.proofs.decimal.text.UnsignedOverWriteable.writeable_length_hint.Goals as goal

pub returns-then-lo-lt0 : goal.returns-then-lo-lt0
returns-then-lo-lt0 g c = grind (arith, counted, length-text_dotted, ints, text_short, common_steps)

pub returns-else-lo-lt0 : goal.returns-else-lo-lt0
returns-else-lo-lt0 g c = grind (arith, counted, length-text_whole, ints, text_short, common_steps)
