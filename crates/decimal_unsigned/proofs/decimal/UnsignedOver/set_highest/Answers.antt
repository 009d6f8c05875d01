use Rattle.std.proofs.{Common.{ap, arith}, lemmas.Int.ints}
use Rattle.decimal_digits.specs.Number.{first}
use Rattle.decimal_unsigned.proofs.lemmas.decimal.Values.{upper_stored}
use Rattle.decimal_unsigned.specs.Unsigned.{Unsigned}
use Rattle.decimal_unsigned.proofs.decimal.UnsignedOver.set_highest.Goals as goal

pub invariant_of-self : goal.invariant_of-self
invariant_of-self g c =
    let n = ap (λ (v : Unsigned). first v.number) c.self.view_is in
    upper_stored c.self.invariant _ (omega (arith, ints, n)) (omega (arith, ints)) (omega (arith, ints))
