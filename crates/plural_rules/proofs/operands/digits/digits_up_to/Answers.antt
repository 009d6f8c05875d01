use Rattle.std.proofs.{Common.arith, lemmas.Int.to_z-of_z}
use Rattle.plural_rules.proofs.lemmas.operands.DigitSlice.{over}
use Rattle.plural_rules.proofs.operands.digits.digits_up_to.Goals as goal

pub loop-below-preserved : goal.loop-below-preserved
loop-below-preserved g c = omega (arith, c.digit_below.ensures.next)

pub returns-then-longer-most : goal.returns-then-longer-most
returns-then-longer-most g c = grind (arith, to_z-of_z, over)
