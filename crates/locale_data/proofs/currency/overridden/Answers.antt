use Rattle.locale_data.proofs.lemmas.tables.CurrencyRows.{overridden-below}
use Rattle.locale_data.proofs.currency.overridden.Goals as goal

pub pattern_at-requires : goal.pattern_at-requires
pattern_at-requires c = overridden-below c.args.index c.indexed_row-replaced.result.now c.indexed_row-replaced.ensures
