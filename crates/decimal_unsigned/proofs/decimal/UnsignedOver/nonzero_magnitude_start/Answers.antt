use Rattle.decimal_unsigned.proofs.lemmas.decimal.Values.{magnitude_kept, first_told}
use Rattle.decimal_unsigned.proofs.decimal.UnsignedOver.nonzero_magnitude_start.Goals as goal

pub returns : goal.returns
returns g c = first_told c.self.invariant c.self.view_is (magnitude_kept c.self.invariant)
