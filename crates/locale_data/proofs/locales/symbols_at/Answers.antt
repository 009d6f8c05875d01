use Rattle.std.proofs.Common.{Some, ap, sym, ◌∙◌}
use Rattle.std.specs.Option.{option_map}
use Rattle.locale_data.specs.{declared.tables.symbols.TheConstants.NUMBERING_SYSTEMS, Locales.{symbols_in, own_symbols_at}}
use Rattle.locale_data.proofs.lemmas.{tables.{EachRow.{contains_at, listed-width}, ReadableRows.rows_are_readable}, locales.IndexedRows.{at_some, at_none, no_locale, no_system, with_system}}
use Rattle.locale_data.proofs.locales.symbols_at.Goals as goal

pub returns-in_err-locale-clause-value : goal.returns-in_err-locale-clause-value
returns-in_err-locale-clause-value c =
    c.from_residual.ensures
    ∙ sym (no_locale c.args.id
    (at_none _ _ c.locales.ensures c.args.id.locale c.in_err-locale.ensures.lookup))

pub returns-in_err-system-clause-value : goal.returns-in_err-system-clause-value
returns-in_err-system-clause-value c =
    c.from_residual-in_err-system.ensures
    ∙ sym (no_system c.args.id c.in_ok-locale.locale.now
    (at_some _ _ c.locales.ensures c.args.id.locale c.in_ok-locale.locale c.in_ok-locale.ensures.lookup)
    (at_none _ _ c.numbering_systems.ensures c.args.id.system c.in_err-system.ensures.lookup))

pub symbols_in-requires : goal.symbols_in-requires
symbols_in-requires c =
    let system = c.in_ok-system.system in
    listed-width system.now (contains_at NUMBERING_SYSTEMS c.args.id.system system.now
    (at_some _ _ c.numbering_systems.ensures c.args.id.system system c.in_ok-system.ensures.lookup))

pub returns-in_default-clause-value : goal.returns-in_default-clause-value
returns-in_default-clause-value c =
    let locale = c.in_ok-locale.locale in
    let system = c.in_ok-system.system in
    let made = with_system c.args.id locale.now
    (at_some _ _ c.locales.ensures c.args.id.locale locale c.in_ok-locale.ensures.lookup) system.now
    (at_some _ _ c.numbering_systems.ensures c.args.id.system system c.in_ok-system.ensures.lookup) in
    ap Some c.symbols_in.ensures ∙ sym (made ∙ ap (own_symbols_at system.now locale.now) c.in_default.is)

pub returns-in_default-clause-readable : goal.returns-in_default-clause-readable
returns-in_default-clause-readable c =
    rows_are_readable c.args.id c.symbols_in.result (sym (returns-in_default-clause-value c))

pub returns-in_err-own-clause-value : goal.returns-in_err-own-clause-value
returns-in_err-own-clause-value c =
    let locale = c.in_ok-locale.locale in
    let system = c.in_ok-system.system in
    let made = with_system c.args.id locale.now
    (at_some _ _ c.locales.ensures c.args.id.locale locale c.in_ok-locale.ensures.lookup) system.now
    (at_some _ _ c.numbering_systems.ensures c.args.id.system system c.in_ok-system.ensures.lookup) in
    let own = at_none _ _ c.own_rows.ensures c.in-Some.own c.in_err-own.ensures.lookup in
    c.from_residual-in_err-own.ensures
    ∙ sym (made ∙ ap (own_symbols_at system.now locale.now) c.in-Some.is
    ∙ ap (option_map (λ row. symbols_in system.now locale.now (Some row))) own)

pub symbols_in-requires-2 : goal.symbols_in-requires-2
symbols_in-requires-2 c =
    let system = c.in_ok-system.system in
    listed-width system.now (contains_at NUMBERING_SYSTEMS c.args.id.system system.now
    (at_some _ _ c.numbering_systems.ensures c.args.id.system system c.in_ok-system.ensures.lookup))

pub returns-clause-value : goal.returns-clause-value
returns-clause-value c =
    let locale = c.in_ok-locale.locale in
    let system = c.in_ok-system.system in
    let made = with_system c.args.id locale.now
    (at_some _ _ c.locales.ensures c.args.id.locale locale c.in_ok-locale.ensures.lookup) system.now
    (at_some _ _ c.numbering_systems.ensures c.args.id.system system c.in_ok-system.ensures.lookup) in
    let own = at_some _ _ c.own_rows.ensures c.in-Some.own c.in_ok-own.own c.in_ok-own.ensures.lookup in
    ap Some c.symbols_in-2.ensures
    ∙ sym (made ∙ ap (own_symbols_at system.now locale.now) c.in-Some.is
    ∙ ap (option_map (λ row. symbols_in system.now locale.now (Some row))) own)

pub returns-clause-readable : goal.returns-clause-readable
returns-clause-readable c =
    rows_are_readable c.args.id c.symbols_in-2.result (sym (returns-clause-value c))
