use Rattle.std.proofs.Common.{refl, ◌∙◌}
use Rattle.decimal_digits.proofs.lemmas.digits.Words.{kept, zero_word}
use Rattle.decimal_digits.proofs.digits.packed.words.keep_nibbles.Goals as goal

pub returns-then-count-eq0 : goal.returns-then-count-eq0
returns-then-count-eq0 c = zero_word 0 refl ∙ rw c.if-count-eq0.true refl

pub returns : goal.returns
returns c = kept c.args.word c.args.count _ _ c.ranges.word.fits c.requires refl refl
