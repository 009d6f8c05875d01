-- The symbols and the rules that rows make, by their indices.
use Rattle.std.proofs.{Common.{◌≡◌, ℕ, ◌<◌, List, length, Option, Some, None, slice_get, refl, ap, sym, ◌∙◌, subst, inl, inr, arith}, lemmas.Option.{slice_get_cases, slice_get_past, slice_get_read}}
use Rattle.std.specs.{Prelude.{IfSome, IsSomeAnd}, Borrow.Bor, Slice.IsItemAt, Option.{option_map, option_and_then}}
use Rattle.locale_data.specs.{declared.{locales.LocaleId.LocaleId, tables.{rows.symbols.{LocaleSymbols.LocaleSymbols, DecimalSystem.DecimalSystem}, symbols.TheConstants.{LOCALES, NUMBERING_SYSTEMS}}}, Rows.row_at, Locales.{system_named, system_of, own_rows, symbols_in, own_symbols_at, symbols_at, IsListed, IsLocale, IsLocaleIn, AreRowsOf}}
use Rattle.locale_data.proofs.lemmas.tables.EachRow.{not_past}

own_symbols : (system : DecimalSystem) (locale : LocaleSymbols) (own : Option ℕ)
    → IfSome own (λ i. i < length (own_rows system))
    → own_symbols_at system locale own ≡ Some (symbols_in system locale (row_at (own_rows system) own))
own_symbols system locale None inside = refl
own_symbols system locale (Some own) inside = elim ((slice_get_cases (own_rows system) own).1) [
  | inl at ↦
      ap (option_map (λ row. symbols_in system locale (Some row))) at.2
      ∙ ap (λ o. Some (symbols_in system locale o)) (sym at.2)
  | inr past ↦ absurd (omega (arith, past.0))
]

-- a row that is looked up by its index in a table that is lent
pub at_some : {X : Type 0} (table xs : List X) → xs ≡ table → (i : ℕ) (r : Bor X) → IsItemAt xs i (Some r)
    → slice_get table i ≡ Some r.now
at_some table xs lent i r h = ap (λ l. slice_get l i) (sym lent) ∙ slice_get_read xs (length xs) i r.now refl h.3.0 h.1

pub at_none : {X : Type 0} (table xs : List X) → xs ≡ table → (i : ℕ) → IsItemAt xs i None
    → slice_get table i ≡ None
at_none table xs lent i h = ap (λ l. slice_get l i) (sym lent) ∙ slice_get_past xs i h.3

module _ (id : LocaleId) where
  pub no_locale : slice_get LOCALES id.locale ≡ None → symbols_at id ≡ None
  unfolding symbols_at
  no_locale none =
      ap (option_and_then (λ locale. option_and_then (λ system. own_symbols_at system locale id.own)
      (slice_get NUMBERING_SYSTEMS id.system))) none

  module _ (locale : LocaleSymbols) (at_locale : slice_get LOCALES id.locale ≡ Some locale) where
    pub no_system : slice_get NUMBERING_SYSTEMS id.system ≡ None → symbols_at id ≡ None
    unfolding symbols_at
    no_system none =
        ap (option_and_then (λ locale. option_and_then (λ system. own_symbols_at system locale id.own)
        (slice_get NUMBERING_SYSTEMS id.system))) at_locale
        ∙ ap (option_and_then (λ system. own_symbols_at system locale id.own)) none

    pub with_system : (system : DecimalSystem) → slice_get NUMBERING_SYSTEMS id.system ≡ Some system
        → symbols_at id ≡ own_symbols_at system locale id.own
    unfolding symbols_at
    with_system system at_system =
        ap (option_and_then (λ locale. option_and_then (λ system. own_symbols_at system locale id.own)
        (slice_get NUMBERING_SYSTEMS id.system))) at_locale
        ∙ ap (option_and_then (λ system. own_symbols_at system locale id.own)) at_system

-- no numbering system, and so no symbols
pub without_system : (id : LocaleId) → slice_get NUMBERING_SYSTEMS id.system ≡ None → symbols_at id ≡ None
without_system id none = by (slice_get LOCALES id.locale) refl
  where
    by : (o : Option LocaleSymbols) → slice_get LOCALES id.locale ≡ o → symbols_at id ≡ None
    by None at = no_locale id at
    by (Some locale) at = no_system id locale at none

-- the rows of a locale and of a numbering system are those of a tag
pub rows_found : (tag : List ℕ) (locale : LocaleSymbols) (i j : ℕ) → slice_get LOCALES i ≡ Some locale
    → IsListed LOCALES tag (Some locale) → slice_get NUMBERING_SYSTEMS j ≡ system_of tag locale
    → j < length NUMBERING_SYSTEMS → AreRowsOf tag i j
rows_found tag locale i j at listed named inside = by (slice_get NUMBERING_SYSTEMS j) refl
  where
    by : (o : Option DecimalSystem) → slice_get NUMBERING_SYSTEMS j ≡ o → AreRowsOf tag i j
    by None none = absurd (not_past NUMBERING_SYSTEMS j inside none)
    by (Some system) at_system = record {
      locale = locale;
      system = system;
      at_locale = at;
      at_system = at_system;
      listed = listed;
      named = sym named ∙ at_system;
    }

-- the rows of a tag make its symbols
pub symbols_found : (tag : List ℕ) (id : LocaleId) (system : DecimalSystem)
    → AreRowsOf tag id.locale id.system → slice_get NUMBERING_SYSTEMS id.system ≡ Some system
    → IfSome id.own (λ i. i < length (own_rows system))
    → IsListed (own_rows system) tag (row_at (own_rows system) id.own)
    → IsSomeAnd (symbols_at id) (IsLocale tag)
symbols_found tag id system rows at_system inside own =
    let locale = rows.locale in
    let found = with_system id locale rows.at_locale system at_system
    ∙ own_symbols system locale id.own inside in
    let same : rows.system ≡ system = cc (rows.at_system, at_system) in
    subst (λ o. IsSomeAnd o (IsLocale tag)) (sym found) (record {
      locale = locale;
      system = system;
      own = row_at (own_rows system) id.own;
      listed = rows.listed;
      named = rows.named ∙ ap Some same;
      in_system = own;
      value = refl;
    })

-- and the rows of a tag and of a numbering system with a name
pub symbols_found_in : (tag name : List ℕ) (id : LocaleId) (system : DecimalSystem) → id.locale < length LOCALES
    → IsListed LOCALES tag (slice_get LOCALES id.locale) → slice_get NUMBERING_SYSTEMS id.system ≡ Some system
    → system_named name ≡ Some system → IfSome id.own (λ i. i < length (own_rows system))
    → IsListed (own_rows system) tag (row_at (own_rows system) id.own) → IsSomeAnd (symbols_at id) (IsLocaleIn tag name)
symbols_found_in tag name id system below listed at_system named inside own =
    by (slice_get LOCALES id.locale) refl listed
  where
    by : (o : Option LocaleSymbols) → slice_get LOCALES id.locale ≡ o → IsListed LOCALES tag o
        → IsSomeAnd (symbols_at id) (IsLocaleIn tag name)
    by None none listed = absurd (not_past LOCALES id.locale below none)
    by (Some locale) at listed =
        let found = with_system id locale at system at_system ∙ own_symbols system locale id.own inside in
        subst (λ o. IsSomeAnd o (IsLocaleIn tag name)) (sym found) (record {
          locale = locale;
          system = system;
          own = row_at (own_rows system) id.own;
          listed = listed;
          named = named;
          in_system = own;
          value = refl;
        })
