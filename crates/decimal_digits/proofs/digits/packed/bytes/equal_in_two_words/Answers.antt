use Rattle.std.proofs.{Common.rules, lemmas.List.take_rest}
use Rattle.decimal_digits.proofs.lemmas.digits.Overlaps.{by_ends}
use Rattle.decimal_digits.proofs.digits.packed.bytes.equal_in_two_words.Goals as goal

pub returns-then-have_equal_fronts : goal.returns-then-have_equal_fronts
returns-then-have_equal_fronts c =
    by_ends _ 8 8 c.args.left.now c.args.right.now c.requires.same_length c.requires.enough c.requires.few
    (c.if-have_equal_fronts.ensures.0 (search rules))
    (simp take_rest at c.have_equal_fronts-then-have_equal_fronts.ensures)
