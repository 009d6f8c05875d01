use Rattle.std.proofs.Common.{sym}
use Rattle.locale_data.proofs.lemmas.tables.RangeRows.{range_systems_are_table, has_ranges_if_named}
use Rattle.locale_data.proofs.range_formats.row_in_system.Goals as goal

pub row_named-requires : goal.row_named-requires
row_named-requires c = range_systems_are_table

pub row_in-requires : goal.row_in-requires
row_in-requires c = has_ranges_if_named c.args.system.now c.in-Some.system.now (sym c.in-Some.ensures)

pub returns-in-Some : goal.returns-in-Some
returns-in-Some c = rw (c.copied.ensures, ← c.in-Some.ensures) c.row_in.ensures
