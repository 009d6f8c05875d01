-- The numbering system of a tag, and when a tag has no symbols.
use Rattle.std.proofs.Common.{◌≡◌, ℕ, List, Option, Some, None, slice_get, ap, refl, inl, inr}
use Rattle.decimal_format.specs.Symbols.{Symbols}
use Rattle.locale_data.specs.{declared.tables.{rows.symbols.{LocaleSymbols.LocaleSymbols, DecimalSystem.DecimalSystem}, symbols.TheConstants.{LOCALES, NUMBERING_SYSTEMS}}, Tag.requested_system, Rows.is_candidate, Locales.{system_by, system_named, system_of, IsListed, IsLocale, AreRowsOf, IsUnknown}}
use Rattle.std.specs.List.{Contains}
use Rattle.locale_data.proofs.lemmas.tables.EachRow.{contains_at, has_system_if_listed, listed_by_name, not_past}

-- the numbering system that a tag names
pub named_system : (tag name : List ℕ) (locale : LocaleSymbols) → requested_system tag ≡ Some name
    → system_of tag locale ≡ system_named name
unfolding system_of
named_system tag name locale e = ap (λ o. system_by o locale) e

-- the default one
pub default_system : (tag : List ℕ) (locale : LocaleSymbols) → requested_system tag ≡ None
    → system_of tag locale ≡ slice_get NUMBERING_SYSTEMS locale.system
unfolding system_of
default_system tag locale e = ap (λ o. system_by o locale) e

pub system_is_listed : (tag : List ℕ) (locale : LocaleSymbols) (system : DecimalSystem)
    → system_of tag locale ≡ Some system → Contains NUMBERING_SYSTEMS system
unfolding system_of
system_is_listed tag locale system = by (requested_system tag)
  where
    by : (o : Option (List ℕ)) → system_by o locale ≡ Some system → Contains NUMBERING_SYSTEMS system
    by None at = contains_at NUMBERING_SYSTEMS locale.system system at
    by (Some name) named = listed_by_name name system named

pub unknown_system : (tag : List ℕ) (locale : LocaleSymbols) → IsListed LOCALES tag (Some locale)
    → system_of tag locale ≡ None → IsUnknown tag
unfolding system_of
unknown_system tag locale listed = go (requested_system tag) refl
  where
    go : (o : Option (List ℕ)) → requested_system tag ≡ o → system_by o locale ≡ None → IsUnknown tag
    go None e none = absurd (not_past NUMBERING_SYSTEMS locale.system (has_system_if_listed locale listed.0) none)
    go (Some name) e none = inr (record { name = name; requested = e; unlisted = none })

pub known : (tag : List ℕ) (locale : LocaleSymbols) (system : DecimalSystem) → IsListed LOCALES tag (Some locale)
    → system_of tag locale ≡ Some system → IsUnknown tag → ⊥
known tag locale system listed named (inl none) =
    let other = none listed.0.0 locale listed.0.1 in
    let same = ap (λ row. is_candidate (λ l. l.tag) tag row) listed.0.2 in
    cc
known tag locale system listed named (inr u) = let e = named_system tag u.name locale u.requested in cc

pub rows_are_known : (tag : List ℕ) (i j : ℕ) → AreRowsOf tag i j → IsUnknown tag → ⊥
rows_are_known tag i j r = known tag r.locale r.system r.listed r.named

pub locale_is_known : (tag : List ℕ) (s : Symbols) → IsLocale tag s → IsUnknown tag → ⊥
locale_is_known tag s l = known tag l.locale l.system l.listed l.named
