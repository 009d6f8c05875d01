use Rattle.std.proofs.{Common.{refl, arith}, lemmas.{Grind.common_steps, List.drop_all}}
use Rattle.decimal_digits.proofs.lemmas.digits.Words.{cut, zero_word, length-word_nibbles}
use Rattle.decimal_digits.proofs.digits.packed.words.cut_nibbles.Goals as goal

pub returns-then-count-eq16 : goal.returns-then-count-eq16
returns-then-count-eq16 c = grind (arith, drop_all, length-word_nibbles, zero_word, common_steps)

pub returns : goal.returns
returns c = cut c.args.word c.args.count _ _ c.ranges.word.fits c.requires refl refl
