use Rattle.std.proofs.lemmas.Int.{to_z-of_z}
use Rattle.decimal_unsigned.proofs.decimal.UnsignedOver.trunced.Goals as goal

pub returns : goal.returns
returns g c = let p = c.ranges.position in simp to_z-of_z at c.trunc.ensures.rounds
