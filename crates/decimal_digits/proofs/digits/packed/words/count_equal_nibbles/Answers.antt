use Rattle.std.proofs.{Common.{refl, ◌∙◌, arith}, lemmas.Grind.common_steps}
use Rattle.decimal_digits.proofs.lemmas.digits.TrailingNibbles.{trailing}
use Rattle.decimal_digits.proofs.digits.packed.words.count_equal_nibbles.Goals as goal

pub returns-clause-equal : goal.returns-clause-equal
returns-clause-equal c = λ k h l.
    (trailing c.args.word c.from.result c.args.count _ c.ranges.word.fits (omega arith) c.requires.few refl c.min.result
    c.min.ensures).0 k h l ∙ c.from.ensures

pub returns-clause-maximal : goal.returns-clause-maximal
returns-clause-maximal c = grind (arith, trailing, common_steps)
