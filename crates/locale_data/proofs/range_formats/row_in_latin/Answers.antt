use Rattle.locale_data.proofs.lemmas.tables.RangeRows.{ranges_are_table}
use Rattle.locale_data.proofs.range_formats.row_in_latin.Goals as goal

pub row_of-requires : goal.row_of-requires
row_of-requires c = ranges_are_table
