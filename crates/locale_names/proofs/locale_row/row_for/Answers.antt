use Rattle.std.proofs.Common.{Some, None, refl}
use Rattle.locale_names.proofs.lemmas.tables.SortedTables.{locales_are_table}
use Rattle.locale_names.proofs.locale_row.row_for.Goals as goal

pub row_of-requires : goal.row_of-requires
row_of-requires c = locales_are_table

pub returns-in-Some : goal.returns-in-Some
returns-in-Some c = record { row = Some c.in-Some.locale.now; listed = c.in-Some.ensures; value = refl }

pub returns-in-None : goal.returns-in-None
returns-in-None c = record { row = None; listed = c.in-None.ensures; value = refl }
