use Rattle.std.proofs.Common.{subst, sym}
use Rattle.std.specs.Prelude.{IsSomeAnd}
use Rattle.locale_data.specs.{declared.locales.LocaleId.LocaleId, Locales.{symbols_at, IsLocale, IsUnknown}}
use Rattle.locale_data.proofs.lemmas.locales.{IndexedRows.symbols_found, Unknown.rows_are_known}
use Rattle.locale_data.proofs.locales.locale_id.Goals as goal

pub returns-clause-found : goal.returns-clause-found
returns-clause-found c =
    let own = c.own_index.ensures in
    let id : LocaleId = record {
      locale = c.in_ok-locale.locale;
      system = c.in_ok-locale.system;
      own = c.own_index.result;
    } in
    subst (λ t. IsSomeAnd (symbols_at id) (IsLocale t)) c.as_bytes-tag.ensures.value
    (symbols_found c.as_bytes-tag.result.now id own.system c.in_ok-locale.ensures.found own.at own.inside own.in_system)

pub returns-clause-unknown : goal.returns-clause-unknown
returns-clause-unknown c = (
  λ none. cc,
  λ u. absurd (rows_are_known c.as_bytes-tag.result.now _ _ c.in_ok-locale.ensures.found
      (subst IsUnknown (sym c.as_bytes-tag.ensures.value) u)),
)
