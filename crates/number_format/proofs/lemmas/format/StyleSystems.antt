-- The numbering system of rows.
use Rattle.std.proofs.{Common.{◌≡◌, ℕ, List, Option, Some, None, refl, sym, ◌∙◌, ap}, lemmas.Option.none-some}
use Rattle.std.specs.{Prelude.slice_get, Option.option_map}
use Rattle.decimal_format.specs.Symbols.{Symbols}
use Rattle.locale_data.specs.{declared.{locales.LocaleId.LocaleId, tables.{rows.symbols.DecimalSystem.DecimalSystem, symbols.TheConstants.NUMBERING_SYSTEMS}}, Locales.symbols_at, Rows.unpadded}
use Rattle.locale_data.proofs.lemmas.locales.IndexedRows.{without_system}
use Rattle.number_format.specs.Formatters.{system_text}

-- rows that have symbols have a numbering system
pub has_system : (id : LocaleId) (name : Option (List ℕ)) (s : Symbols) → symbols_at id ≡ Some s
    → (system : List ℕ) × (system_text id name ≡ Some system)
has_system id (Some name) s e = (name, refl)
has_system id None s e = by (slice_get NUMBERING_SYSTEMS id.system) refl
  where
    by : (row : Option DecimalSystem) → slice_get NUMBERING_SYSTEMS id.system ≡ row
        → (system : List ℕ) × (system_text id None ≡ Some system)
    by None at = absurd (none-some s (sym (without_system id at) ∙ e))
    by (Some row) at = (unpadded row.name, ap (option_map (λ (r : DecimalSystem). unpadded r.name)) at)
