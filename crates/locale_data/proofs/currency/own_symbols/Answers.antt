use Rattle.locale_data.proofs.lemmas.tables.CurrencyRows.{has_symbols_if_listed}
use Rattle.locale_data.proofs.currency.own_symbols.Goals as goal

pub row_in-requires : goal.row_in-requires
row_in-requires c = has_symbols_if_listed c.args.currency.now c.requires
