use Rattle.std.proofs.Common.{None, subst}
use Rattle.locale_data.specs.{declared.tables.symbols.TheConstants.NUMBERING_SYSTEMS, Rows.row_at, Locales.IsListed}
use Rattle.locale_data.proofs.lemmas.tables.EachRow.{contains_at, has_rows_if_listed}
use Rattle.locale_data.proofs.locales.own_index.Goals as goal

pub row_index-requires : goal.row_index-requires
row_index-requires c =
    let system = c.indexed_row.result.now in
    let at = rw c.numbering_systems.ensures at c.indexed_row.ensures in
    rw c.own_rows.ensures (has_rows_if_listed system (contains_at NUMBERING_SYSTEMS c.args.system system at))

pub returns-in-None : goal.returns-in-None
returns-in-None c = record {
  system = c.indexed_row.result.now;
  at = rw c.numbering_systems.ensures at c.indexed_row.ensures;
  inside = tt;
  in_system =
      subst (λ rows. IsListed rows c.args.tag.now (row_at rows None)) c.own_rows.ensures c.in-None.ensures.value;
}
