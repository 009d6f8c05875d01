use Rattle.std.proofs.Common.{sym, ◌∙◌, ap, rules}
use Rattle.decimal_unsigned.proofs.lemmas.decimal.Values.{none_of, number_of-none, value_of_view}
use Rattle.decimal_unsigned.specs.Unsigned.{Unsigned}
use Rattle.decimal_unsigned.proofs.decimal.UnsignedOver.is_zero.Goals as goal

pub returns-clause-zero : goal.returns-clause-zero
returns-clause-zero g c =
    let n = ap (λ (v : Unsigned). v.number) c.self.view_is in (
      λ h. sym n ∙ number_of-none c.self.invariant (search (rules, c.len.ensures)),
      λ h. let z = none_of c.self.invariant (n ∙ h) in search rules,
    )

pub returns-clause-valid : goal.returns-clause-valid
returns-clause-valid g c = value_of_view c.self.invariant c.self.view_is
