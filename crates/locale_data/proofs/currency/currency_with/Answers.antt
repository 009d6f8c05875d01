use Rattle.locale_data.proofs.lemmas.tables.CurrencyRows.{currencies_are_table}
use Rattle.locale_data.proofs.currency.currency_with.Goals as goal

pub row_named-requires : goal.row_named-requires
row_named-requires c = rw c.currencies.ensures currencies_are_table
