use Rattle.std.proofs.Common.{◌≡◌, None, subst, sym, ap, ◌∙◌, inl}
use Rattle.std.specs.Prelude.{◌⊎◌, IfNone, IsSomeAnd}
use Rattle.locale_data.specs.{declared.{locales.LocaleId.LocaleId, tables.symbols.TheConstants.LOCALES}, Locales.{symbols_at, system_named, IsListed, IsLocaleIn}}
use Rattle.locale_data.proofs.lemmas.{locales.IndexedRows.symbols_found_in, tables.EachRow.locales_are_table}
use Rattle.locale_data.proofs.locales.locale_id_in.Goals as goal

pub row_index-requires : goal.row_index-requires
row_index-requires c = rw c.locales.ensures locales_are_table

pub returns-in_err-locale-clause-unknown : goal.returns-in_err-locale-clause-unknown
returns-in_err-locale-clause-unknown c =
    subst (λ r. IfNone r (IsListed LOCALES c.args.tag.now None ⊎ (system_named c.args.system.now ≡ None)))
    (sym c.from_residual.ensures)
    (inl (subst (λ t. IsListed LOCALES t None) c.as_bytes-tag.ensures.value
    (rw c.locales.ensures at c.in_err-locale.ensures.value)))

pub returns-clause-found : goal.returns-clause-found
returns-clause-found c =
    let own = c.own_index.ensures in
    let tag = c.as_bytes-tag.result.now in
    let id : LocaleId = record {
      locale = c.in_ok-locale.locale;
      system = c.in_ok-system.system;
      own = c.own_index.result;
    } in
    let named = ap system_named (sym c.as_bytes.ensures.value) ∙ sym c.in_ok-system.ensures.value ∙ own.at in
    subst (λ t. IsSomeAnd (symbols_at id) (IsLocaleIn t c.args.system.now)) c.as_bytes-tag.ensures.value
    (symbols_found_in tag c.args.system.now id own.system (rw c.locales.ensures at c.in_ok-locale.ensures.inside)
    (rw c.locales.ensures at c.in_ok-locale.ensures.value) own.at named own.inside own.in_system)
