use Rattle.std.proofs.Common.{◌≡◌, ℕ, List, IfSome, None, Some, Option, refl, subst, sym}
use Rattle.std.specs.Prelude.{IsNone, MatchOption}
use Rattle.locale_data.specs.{Currencies.{currency_with, IsCurrencyId}, declared.currency.CurrencyId.CurrencyId}
use Rattle.number_format.specs.Formatters.{IsCurrencyRow}
use Rattle.number_format.proofs.format.ids.currency_row.Goals as goal

row_of : (tag code : List ℕ) (row : Option CurrencyId) → IfSome row (IsCurrencyId tag code)
    → (IsNone row → currency_with code ≡ None) → MatchOption row (currency_with code ≡ None) (IsCurrencyId tag code)
row_of tag code None found unlisted = unlisted refl
row_of tag code (Some id) found unlisted = found

pub returns-in-Currency-clause-row : goal.returns-in-Currency-clause-row
returns-in-Currency-clause-row c =
    let row = c.currency_id.result in
    subst (λ s. IsCurrencyRow c.args.tag.now s row) (sym c.in-Currency.is)
    (row_of c.args.tag.now c.in-Currency.style.code row c.currency_id.ensures.found c.currency_id.ensures.unlisted.0)
