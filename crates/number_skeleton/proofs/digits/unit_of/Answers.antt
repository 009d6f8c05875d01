use Rattle.std.proofs.{Common.arith, lemmas.Grind.common_steps}
use Rattle.number_skeleton.proofs.digits.unit_of.Goals as goal

pub returns-in-0-clause-value : goal.returns-in-0-clause-value
returns-in-0-clause-value c = grind (arith, common_steps)

pub returns-in-1-clause-value : goal.returns-in-1-clause-value
returns-in-1-clause-value c = grind (arith, common_steps)

pub returns-in-2-clause-value : goal.returns-in-2-clause-value
returns-in-2-clause-value c = grind (arith, common_steps)

pub returns-in-3-clause-value : goal.returns-in-3-clause-value
returns-in-3-clause-value c = grind (arith, common_steps)

pub returns-in_default-clause-value : goal.returns-in_default-clause-value
returns-in_default-clause-value c = grind (arith, common_steps)

pub returns-in_default-2-clause-value : goal.returns-in_default-2-clause-value
returns-in_default-2-clause-value c = grind (arith, common_steps)
