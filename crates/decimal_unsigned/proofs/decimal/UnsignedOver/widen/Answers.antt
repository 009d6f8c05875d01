use Rattle.std.proofs.{Common.arith, lemmas.Int.{ints, clamps}}
use Rattle.decimal_unsigned.proofs.lemmas.shift.Concatenations.{wider}
use Rattle.decimal_unsigned.proofs.decimal.UnsignedOver.widen.Goals as goal

pub invariant_of-self : goal.invariant_of-self
invariant_of-self g c =
    let t = c.self.invariant in
    wider t (omega (arith, ints, clamps, t.in_range, t.hi_in, c.max-hi.ensures))
    (omega (arith, ints, clamps, t.in_range, t.lo_in, c.min-lo.ensures)) (omega (arith, ints))
    (omega (arith, ints))
