use Rattle.locale_data.proofs.lemmas.tables.CompactRows.{has_unit_at}
use Rattle.locale_data.proofs.number_formats.NumberFormats.percent_unit.Goals as goal

pub unit_of-requires : goal.unit_of-requires
unit_of-requires c =
    rw c.unit_for.ensures
    (has_unit_at c.args.self.now.unit c.indexed_row-unit.result.now c.args.category c.indexed_row-unit.ensures)
