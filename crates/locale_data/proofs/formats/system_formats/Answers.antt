use Rattle.std.proofs.Common.{sym}
use Rattle.locale_data.proofs.lemmas.tables.FormatRows.{format_systems_are_table, listed_system}
use Rattle.locale_data.proofs.formats.system_formats.Goals as goal

pub row_named-requires : goal.row_named-requires
row_named-requires c = format_systems_are_table

pub own_formats-requires : goal.own_formats-requires
own_formats-requires c = listed_system c.args.system.now c.in-Some.system.now (sym c.in-Some.ensures)
