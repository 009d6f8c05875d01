-- The formats of numbers in a locale and a numbering system.
use Rattle.std.specs.{Prelude.{◌≡◌, ℕ, Bool, ◌&&◌, nat_lt, List, length, replicate, Option, None, Some, unwrap_or}, Option.option_or}
use Rattle.locale_data.specs.{declared.{tables.{rows.formats.{FormatSystem.FormatSystem, LocaleFormats.LocaleFormats, SystemFormats.SystemFormats}, compact.TheConstants.{COMPACT_SETS, PERCENT_UNITS}, formats.TheConstants.{FORMATS_BY_SYSTEM, FORMAT_SYSTEMS, LOCALE_FORMATS, MONEY_FORMATS, NUMBER_SIGNS, PATTERNS, ROOT_FORMATS}}, format_rows.FormatRows.FormatRows, number_formats.NumberFormats.NumberFormats}, Rows.{part, row_named, IsRowOf}, Tag.compared}

-- what a table has for a tag: the row with the longest name that is a prefix of it, or else the usual row
pub record IsRowElse {R : Type 0} (name_of : R → List ℕ) (rows : List R) (usual : R) (tag : List ℕ)
    (found : R) : Type 0 where
  pub row : Option R
  pub listed : IsRowOf name_of rows tag row
  pub value : found ≡ unwrap_or row usual

-- the numbering system with a name, if locales have formats of their own in it
abbrev pub format_system : List ℕ → Option FormatSystem
format_system name = row_named (λ s. s.name) FORMAT_SYSTEMS (compared name)

abbrev pub IsLatinFormats : List ℕ → LocaleFormats → Type 0
IsLatinFormats = IsRowElse (λ l. l.tag) LOCALE_FORMATS ROOT_FORMATS

-- nothing in a numbering system: each format is that of `latn`
abbrev pub no_formats : SystemFormats
no_formats = record {
  tag = replicate 16 32;
  percent = None;
  standard = None;
  accounting = None;
  signs = None;
  compact = None;
}

abbrev pub IsOwnFormats : List ℕ → FormatSystem → SystemFormats → Type 0
IsOwnFormats tag system = IsRowElse (λ l. l.tag) (part FORMATS_BY_SYSTEM system.rows) no_formats tag

-- what a tag has in a numbering system, and what root has there
abbrev pub AreOfSystem : Option FormatSystem → List ℕ → SystemFormats → SystemFormats → Type 0
AreOfSystem None tag own root = (own ≡ no_formats) × (root ≡ no_formats)
AreOfSystem (Some system) tag own root = IsOwnFormats tag system own × (root ≡ system.root)

-- the index that a tag has in a numbering system, or else that of root there, or else that of the tag in `latn`
abbrev pub chosen : Option ℕ → Option ℕ → ℕ → ℕ
chosen own root latin = unwrap_or (option_or own root) latin

-- each format is the tag's in the numbering system, or else root's there, or else the tag's in `latn`
pub record AreFormatsOf (tag system : List ℕ) (f : NumberFormats) : Type 0 where
  pub latin : LocaleFormats
  pub own : SystemFormats
  pub root : SystemFormats
  pub of_latin : IsLatinFormats tag latin
  pub of_system : AreOfSystem (format_system system) tag own root
  pub percent : f.percent ≡ chosen own.percent root.percent latin.percent
  pub standard : f.standard ≡ chosen own.standard root.standard latin.standard
  pub accounting : f.accounting ≡ chosen own.accounting root.accounting latin.accounting
  pub signs : f.signs ≡ chosen own.signs root.signs latin.signs
  pub compact : f.compact ≡ chosen own.compact root.compact latin.compact
  pub unit : f.unit ≡ latin.unit
  pub money : f.money ≡ latin.money

-- ---- Rows as integers.
abbrev pub format_rows : NumberFormats → FormatRows
format_rows f = record {
  percent = f.percent;
  standard = f.standard;
  accounting = f.accounting;
  signs = f.signs;
  compact = f.compact;
  unit = f.unit;
  money = f.money;
}

-- each table has the row
abbrev pub are_listed : FormatRows → Bool
are_listed rows =
    nat_lt rows.percent (length PATTERNS)
    && (nat_lt rows.standard (length PATTERNS)
    && (nat_lt rows.accounting (length PATTERNS)
    && (nat_lt rows.signs (length NUMBER_SIGNS)
    && (nat_lt rows.compact (length COMPACT_SETS)
    && (nat_lt rows.unit (length PERCENT_UNITS) && nat_lt rows.money (length MONEY_FORMATS))))))
