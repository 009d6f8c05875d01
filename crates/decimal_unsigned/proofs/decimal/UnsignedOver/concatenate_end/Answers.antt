use Rattle.std.proofs.{Common.arith, lemmas.Grind.common_steps}
use Rattle.decimal_unsigned.proofs.lemmas.shift.Concatenations.{disjoint, not_overlapping}
use Rattle.decimal_unsigned.proofs.decimal.UnsignedOver.concatenate_end.Goals as goal

pub append-requires-clause-disjoint : goal.append-requires-clause-disjoint
append-requires-clause-disjoint g c = grind (arith, disjoint, common_steps)

-- the branch is unreachable if the second number begins below the last digit of the first
pub returns-then-overlaps : goal.returns-then-overlaps
returns-then-overlaps g c = grind (arith, not_overlapping, common_steps)

pub returns-then-is_zero : goal.returns-then-is_zero
returns-then-is_zero g c = grind (arith, common_steps)

pub returns-then-is_zero-2 : goal.returns-then-is_zero-2
returns-then-is_zero-2 g c = grind (arith, common_steps)

pub returns-in-Ok : goal.returns-in-Ok
returns-in-Ok g c = grind (arith, common_steps)

pub returns-in-Err : goal.returns-in-Err
returns-in-Err g c = grind (arith, common_steps)
