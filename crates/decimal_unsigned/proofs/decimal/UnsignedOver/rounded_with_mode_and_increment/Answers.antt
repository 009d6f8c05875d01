use Rattle.std.proofs.{Common.arith, lemmas.{Grind.common_steps, Int.to_z-of_z}}
use Rattle.decimal_unsigned.proofs.decimal.UnsignedOver.rounded_with_mode_and_increment.Goals as goal

pub returns-in-Ok-clause-rounds : goal.returns-in-Ok-clause-rounds
returns-in-Ok-clause-rounds g c = let p = c.ranges.position in simp to_z-of_z at c.in-Ok.ensures.rounds

pub returns-in-Err-clause-no_limit : goal.returns-in-Err-clause-no_limit
returns-in-Err-clause-no_limit g c = grind (arith, to_z-of_z, common_steps)
