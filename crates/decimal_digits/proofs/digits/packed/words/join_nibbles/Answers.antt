use Rattle.std.proofs.{Common.arith, lemmas.Grind.common_steps}
use Rattle.decimal_digits.proofs.lemmas.digits.Words.{joined}
use Rattle.decimal_digits.proofs.digits.packed.words.join_nibbles.Goals as goal

pub overflow_add-result : goal.overflow_add-result
overflow_add-result c =
    omega (
      arith,
      (joined c.args.word c.args.other c.args.start c.ranges.word.fits c.ranges.other.fits c.requires.in_range
          c.requires.zeros).0,
    )

pub returns : goal.returns
returns c = grind (arith, joined, common_steps)
