use Rattle.std.proofs.lemmas.Int.{to_z-of_z}
use Rattle.decimal_unsigned.proofs.decimal.UnsignedOver.rounded_with_mode.Goals as goal

pub returns-in-Ok-clause-rounds : goal.returns-in-Ok-clause-rounds
returns-in-Ok-clause-rounds g c = let p = c.ranges.position in simp to_z-of_z at c.in-Ok.ensures.rounds

pub returns-in-Err-clause-rounds : goal.returns-in-Err-clause-rounds
returns-in-Err-clause-rounds g c = let p = c.ranges.position in simp to_z-of_z at c.in-Err.ensures.rounds
