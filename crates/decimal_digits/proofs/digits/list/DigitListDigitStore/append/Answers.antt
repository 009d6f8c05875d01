use Rattle.std.proofs.{Common.arith, lemmas.Grind.{common_steps, elements, moves}}
use Rattle.decimal_digits.proofs.digits.list.DigitListDigitStore.append.Goals as goal

pub invariant_of-self-in-loop : goal.invariant_of-self-in-loop
invariant_of-self-in-loop c = grind (arith, elements)

pub loop-preserved : goal.loop-preserved
loop-preserved c = grind (arith, common_steps)

pub invariant_of-self-2 : goal.invariant_of-self-2
invariant_of-self-2 c = grind (arith, moves)

pub returns : goal.returns
returns c = grind (arith, common_steps)
