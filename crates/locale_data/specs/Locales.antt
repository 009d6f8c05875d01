-- The locales and numbering systems of tags.
use Rattle.std.specs.{Prelude.{◌≡◌, ℕ, ◌<◌, List, [], length, Option, None, Some, IfSome, unwrap_or, encode_utf8, slice_get, slice_index, ◌⊎◌}, Option.{option_map, option_and_then}}
use Rattle.decimal_format.specs.{declared.grouping.GroupingSizes.GroupingSizes, Symbols.{Symbols, symbols, affixes, HaveWidth}}
use Rattle.locale_data.specs.{declared.{locales.LocaleId.LocaleId, tables.{rows.symbols.{LocaleSymbols.LocaleSymbols, DecimalSystem.DecimalSystem, SymbolSet.SymbolSet}, symbols.TheConstants.{LOCALES, LOCALES_BY_SYSTEM, NUMBERING_SYSTEMS}}}, Rows.{part, unpadded, row_at, row_named, IsRowOf}, Symbol.symbol_text, Tag.{compared, requested_system}}

-- the numbering system with a name
unfoldable pub system_named : List ℕ → Option DecimalSystem
system_named name = row_named (λ s. s.name) NUMBERING_SYSTEMS (compared name)

-- the locales that have symbols of their own in a numbering system
abbrev pub own_rows : DecimalSystem → List LocaleSymbols
own_rows system = part LOCALES_BY_SYSTEM system.rows

-- no listed locale is one of the tag, or this one is, and none with a longer tag
abbrev pub IsListed : List LocaleSymbols → List ℕ → Option LocaleSymbols → Type 0
IsListed = IsRowOf (λ l. l.tag)

-- ten digits have the same length in UTF-8
abbrev pub HasOneWidth : List ℕ → Type 0
HasOneWidth digits = HaveWidth digits (length (encode_utf8 (slice_index digits 0)))

-- symbols with the digits of a numbering system
abbrev pub symbols_of : DecimalSystem → SymbolSet → GroupingSizes → Symbols
symbols_of system set sizes =
    symbols system.digits (symbol_text set.decimal) (symbol_text set.grouping)
    (affixes (symbol_text set.minus) []) (affixes (symbol_text set.plus) []) sizes

-- those of a locale in a numbering system: its own there, or else those of the system, or else those of the locale
abbrev pub symbols_in : DecimalSystem → LocaleSymbols → Option LocaleSymbols → Symbols
symbols_in system locale None = symbols_of system (unwrap_or system.symbols locale.symbols) locale.sizes
symbols_in system locale (Some own) = symbols_of system own.symbols own.sizes

-- the numbering system with a name, and without a name the default one of a locale
abbrev pub system_by : Option (List ℕ) → LocaleSymbols → Option DecimalSystem
system_by None locale = slice_get NUMBERING_SYSTEMS locale.system
system_by (Some name) locale = system_named name

-- the numbering system that a tag names, or else the default one of a locale
unfoldable pub system_of : List ℕ → LocaleSymbols → Option DecimalSystem
system_of tag locale = system_by (requested_system tag) locale

-- those of a locale in a numbering system, whose own symbols are a row with an index, or None
abbrev pub own_symbols_at : DecimalSystem → LocaleSymbols → Option ℕ → Option Symbols
own_symbols_at system locale None = Some (symbols_in system locale None)
own_symbols_at system locale (Some own) =
    option_map (λ row. symbols_in system locale (Some row)) (slice_get (own_rows system) own)

-- the symbols that rows with indices make, if there are such rows
unfoldable pub symbols_at : LocaleId → Option Symbols
symbols_at id =
    option_and_then (λ locale. option_and_then (λ system. own_symbols_at system locale id.own)
    (slice_get NUMBERING_SYSTEMS id.system)) (slice_get LOCALES id.locale)

-- the symbols are those of the listed locale with the longest tag, in the numbering system of the tag or its default
pub record IsLocale (tag : List ℕ) (s : Symbols) : Type 0 where
  pub locale : LocaleSymbols
  pub system : DecimalSystem
  pub own : Option LocaleSymbols
  pub listed : IsListed LOCALES tag (Some locale)
  pub named : system_of tag locale ≡ Some system
  pub in_system : IsListed (own_rows system) tag own
  pub value : s ≡ symbols_in system locale own

-- the symbols are those of the listed locale with the longest tag, in the numbering system with a name
pub record IsLocaleIn (tag name : List ℕ) (s : Symbols) : Type 0 where
  pub locale : LocaleSymbols
  pub system : DecimalSystem
  pub own : Option LocaleSymbols
  pub listed : IsListed LOCALES tag (Some locale)
  pub named : system_named name ≡ Some system
  pub in_system : IsListed (own_rows system) tag own
  pub value : s ≡ symbols_in system locale own

-- the rows with these indices are the listed locale with the longest tag, and its numbering system
pub record AreRowsOf (tag : List ℕ) (locale_index system_index : ℕ) : Type 0 where
  pub locale : LocaleSymbols
  pub system : DecimalSystem
  pub at_locale : slice_get LOCALES locale_index ≡ Some locale
  pub at_system : slice_get NUMBERING_SYSTEMS system_index ≡ Some system
  pub listed : IsListed LOCALES tag (Some locale)
  pub named : system_of tag locale ≡ Some system

-- the index of the symbols that a tag has of its own in the numbering system with an index, if it has some
pub record IsOwnIndex (tag : List ℕ) (index : ℕ) (own : Option ℕ) : Type 0 where
  pub system : DecimalSystem
  pub at : slice_get NUMBERING_SYSTEMS index ≡ Some system
  pub inside : IfSome own (λ i. i < length (own_rows system))
  pub in_system : IsListed (own_rows system) tag (row_at (own_rows system) own)

-- the name of the numbering system of rows
abbrev pub system_name_at : LocaleId → Option (List ℕ)
system_name_at id = option_map (λ s. unpadded s.name) (slice_get NUMBERING_SYSTEMS id.system)

-- the numbering system of the tag is not listed
pub record HasUnknownSystem (tag : List ℕ) : Type 0 where
  pub name : List ℕ
  pub requested : requested_system tag ≡ Some name
  pub unlisted : system_named name ≡ None

-- no listed tag is a prefix of the tag, or its numbering system is not listed
abbrev pub IsUnknown : List ℕ → Type 0
IsUnknown tag = IsListed LOCALES tag None ⊎ HasUnknownSystem tag
