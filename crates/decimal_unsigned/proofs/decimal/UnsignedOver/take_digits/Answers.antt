use Rattle.std.proofs.Common.{◌∙◌}
use Rattle.decimal_unsigned.proofs.lemmas.{decimal.Values.magnitude_kept, shift.Concatenations.taken}
use Rattle.decimal_unsigned.proofs.decimal.UnsignedOver.take_digits.Goals as goal

pub invariant_of-self : goal.invariant_of-self
invariant_of-self g c =
    rw (magnitude_kept c.other.invariant)
    (taken c.args.self.now c.args.other c.self.invariant c.other.invariant (c.self.view_is ∙ c.widen.ensures)
    c.other.view_is)
