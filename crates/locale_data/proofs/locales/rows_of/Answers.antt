use Rattle.std.proofs.Common.{is_some, ap, subst, sym, inl}
use Rattle.locale_data.specs.{declared.tables.symbols.TheConstants.LOCALES, Locales.IsListed}
use Rattle.locale_data.proofs.lemmas.{tables.EachRow.{locales_are_table, contains_at}, locales.{IndexedRows.rows_found, Unknown.{unknown_system, rows_are_known}}}
use Rattle.locale_data.proofs.locales.rows_of.Goals as goal

pub row_index-requires : goal.row_index-requires
row_index-requires c = rw c.locales-rows.ensures locales_are_table

pub system_index-requires : goal.system_index-requires
system_index-requires c =
    contains_at LOCALES c.in_ok-locale.locale c.indexed_row.result.now
    (rw c.locales-rows.ensures at c.indexed_row.ensures)

pub returns-in_err-locale-clause-unknown : goal.returns-in_err-locale-clause-unknown
returns-in_err-locale-clause-unknown c = (
  λ _. inl (rw c.locales-rows.ensures at c.in_err-locale.ensures.value),
  λ _. ap is_some c.from_residual.ensures,
)

pub returns-in_err-system-clause-unknown : goal.returns-in_err-system-clause-unknown
returns-in_err-system-clause-unknown c =
    let at = rw c.locales-rows.ensures at c.indexed_row.ensures in
    let listed = subst (IsListed LOCALES c.args.tag.now) at
    (rw c.locales-rows.ensures at c.in_ok-locale.ensures.value) in (
      λ _. unknown_system c.args.tag.now c.indexed_row.result.now listed (sym c.in_err-system.ensures.value),
      λ _. ap is_some c.from_residual-in_err-system.ensures,
    )

pub returns-clause-found : goal.returns-clause-found
returns-clause-found c =
    let at = rw c.locales-rows.ensures at c.indexed_row.ensures in
    rows_found c.args.tag.now c.indexed_row.result.now c.in_ok-locale.locale c.in_ok-system.system at
    (subst (IsListed LOCALES c.args.tag.now) at (rw c.locales-rows.ensures at c.in_ok-locale.ensures.value))
    c.in_ok-system.ensures.value c.in_ok-system.ensures.inside

pub returns-clause-unknown : goal.returns-clause-unknown
returns-clause-unknown c = (
  λ none. cc,
  λ u. absurd (rows_are_known c.args.tag.now _ _ (returns-clause-found c) u),
)
