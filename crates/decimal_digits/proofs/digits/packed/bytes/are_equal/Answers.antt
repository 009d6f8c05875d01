use Rattle.std.proofs.{Common.arith, Math.Seq.take-add, lemmas.{Grind.common_steps, List.take_rest}}
use Rattle.decimal_digits.proofs.lemmas.digits.Overlaps.{by_ends}
use Rattle.decimal_digits.proofs.digits.packed.bytes.are_equal.Goals as goal

pub loop-start-preserved : goal.loop-start-preserved
loop-start-preserved c = grind (arith, take_rest, take-add, common_steps)

pub returns : goal.returns
returns c =
    by_ends _ c.loop-start.start 8 c.args.left.now c.args.right.now c.requires.same_length c.requires.enough
    (omega arith) c.loop-start.invariant.same (simp take_rest at c.have_equal_fronts-2.ensures)
