use Rattle.std.proofs.Common.{refl, subst, sym}
use Rattle.std.specs.Prelude.{IsSomeAnd}
use Rattle.locale_data.specs.{Currencies.IsSymbol, declared.tables.currencies.TheConstants.CURRENCY_TEXTS}
use Rattle.locale_data.proofs.lemmas.{locales.IndexedRows.{at_some, at_none}, tables.EachRow.contains_at}
use Rattle.locale_data.proofs.currency.symbol_at.Goals as goal

pub symbol_of-requires : goal.symbol_of-requires
symbol_of-requires c =
    contains_at CURRENCY_TEXTS c.args.index c.in-Some.text.now
    (at_some CURRENCY_TEXTS _ refl c.args.index c.in-Some.text c.in-Some.ensures.lookup)

pub returns-in-Some : goal.returns-in-Some
returns-in-Some c =
    subst (λ o. IsSomeAnd o (λ t. IsSymbol t c.symbol_of.result))
    (sym (at_some CURRENCY_TEXTS _ refl c.args.index c.in-Some.text c.in-Some.ensures.lookup)) c.symbol_of.ensures

pub returns-in-None : goal.returns-in-None
returns-in-None c = at_none CURRENCY_TEXTS _ refl c.args.index c.in-None.ensures.lookup
