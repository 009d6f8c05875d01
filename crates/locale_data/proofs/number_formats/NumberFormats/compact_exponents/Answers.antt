use Rattle.std.proofs.Common.{◌≡◌, ◌<◌, ◌∙◌, Some, length, ap, sym, subst}
use Rattle.std.specs.Prelude.{slice_get}
use Rattle.locale_data.specs.declared.tables.{rows.compact.CompactRows.CompactRows, compact.TheConstants.COMPACT_EXPONENTS}
use Rattle.locale_data.proofs.lemmas.tables.CompactRows.{has_exponents_at}
use Rattle.locale_data.proofs.number_formats.NumberFormats.compact_exponents.Goals as goal

pub indexed_row-requires : goal.indexed_row-requires
indexed_row-requires c =
    subst (λ (rows : CompactRows). rows.exponents < length COMPACT_EXPONENTS) (sym c.rows_of-rows.ensures)
    (has_exponents_at c.args.self.now.compact c.compact_set.result.now c.args.style c.compact_set.ensures)

pub returns : goal.returns
returns c =
    record {
      set = c.compact_set.result.now;
      listed = c.compact_set.ensures;
      value =
          subst (λ (rows : CompactRows). slice_get COMPACT_EXPONENTS rows.exponents ≡ Some c.indexed_row.result.now)
          c.rows_of-rows.ensures c.indexed_row.ensures;
    }
