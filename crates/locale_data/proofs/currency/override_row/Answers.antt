use Rattle.locale_data.proofs.lemmas.tables.CurrencyRows.{has_overrides_if_listed}
use Rattle.locale_data.proofs.currency.override_row.Goals as goal

pub row_in-requires : goal.row_in-requires
row_in-requires c = has_overrides_if_listed c.args.currency.now c.requires
