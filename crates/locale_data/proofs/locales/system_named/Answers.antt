use Rattle.locale_data.proofs.lemmas.tables.EachRow.{systems_are_table}
use Rattle.locale_data.proofs.locales.system_named.Goals as goal

pub index_named-requires : goal.index_named-requires
index_named-requires c = rw c.numbering_systems.ensures systems_are_table
