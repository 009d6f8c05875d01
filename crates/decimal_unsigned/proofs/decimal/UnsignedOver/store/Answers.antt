use Rattle.std.proofs.Common.{sym, ◌∙◌, ap}
use Rattle.decimal_digits.specs.{Digits.number_of, Number.{first, size}}
use Rattle.decimal_unsigned.proofs.lemmas.decimal.Values.{first_of, size-number_of, value_of_view}
use Rattle.decimal_unsigned.specs.Unsigned.{Unsigned}
use Rattle.decimal_unsigned.proofs.decimal.UnsignedOver.store.Goals as goal

pub returns-clause-number : goal.returns-clause-number
returns-clause-number g c =
    let n = ap (λ (v : Unsigned). v.number) c.self.view_is in
    let m = sym (ap first n) ∙ first_of c.self.invariant in
    ap (number_of (g.D.DigitStore.digits c.self.inside.digits)) m ∙ n

pub returns-clause-length : goal.returns-clause-length
returns-clause-length g c = sym (size-number_of c.self.invariant) ∙ ap (λ (v : Unsigned). size v.number) c.self.view_is

pub returns-clause-valid : goal.returns-clause-valid
returns-clause-valid g c = value_of_view c.self.invariant c.self.view_is
