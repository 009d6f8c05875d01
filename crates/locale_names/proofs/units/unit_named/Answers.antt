use Rattle.locale_names.proofs.lemmas.tables.SortedTables.{units_are_sorted}
use Rattle.locale_names.proofs.units.unit_named.Goals as goal

pub index_in-requires : goal.index_in-requires
index_in-requires c = units_are_sorted
