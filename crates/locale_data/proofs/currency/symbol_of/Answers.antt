use Rattle.locale_data.proofs.lemmas.tables.CurrencyRows.{text_if_listed}
use Rattle.locale_data.proofs.currency.symbol_of.Goals as goal

pub text_in-requires : goal.text_in-requires
text_in-requires c = text_if_listed c.args.text.now c.requires
