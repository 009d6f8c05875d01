use Rattle.decimal_unsigned.proofs.lemmas.decimal.Values.{value_of_view}
use Rattle.decimal_unsigned.proofs.decimal.UnsignedOver.highest.Goals as goal

pub returns-clause-valid : goal.returns-clause-valid
returns-clause-valid g c = value_of_view c.self.invariant c.self.view_is
