use Rattle.locale_names.proofs.lemmas.tables.SortedTables.{currencies_are_table}
use Rattle.locale_names.proofs.locale_currencies.index_of.Goals as goal

pub index_named-requires : goal.index_named-requires
index_named-requires c = currencies_are_table
