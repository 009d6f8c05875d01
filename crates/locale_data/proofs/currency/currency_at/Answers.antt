use Rattle.std.proofs.Common.{refl, subst, sym, inl}
use Rattle.std.specs.Prelude.{IfNone}
use Rattle.locale_data.specs.Currencies.{LacksCurrency}
use Rattle.locale_data.proofs.lemmas.locales.IndexedRows.{at_some, at_none}
use Rattle.locale_data.proofs.currency.currency_at.Goals as goal

pub returns-in_err-currency-clause-lacks : goal.returns-in_err-currency-clause-lacks
returns-in_err-currency-clause-lacks c =
    subst (λ r. IfNone r (LacksCurrency c.args.id)) (sym c.from_residual.ensures)
    (inl (at_none _ _ c.currencies.ensures c.args.id.currency c.in_err-currency.ensures.lookup))

pub returns-clause-found : goal.returns-clause-found
returns-clause-found c = record {
  currency = c.in_ok-currency.currency.now;
  at = at_some _ _ c.currencies.ensures c.args.id.currency c.in_ok-currency.currency c.in_ok-currency.ensures.lookup;
  digits = c.digits_of.ensures;
  wide = c.in_ok-wide.ensures;
  narrow = c.in_ok-narrow.ensures;
  pattern = refl;
}
