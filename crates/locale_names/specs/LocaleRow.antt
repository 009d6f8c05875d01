-- What a locale has.
use Rattle.std.specs.Prelude.{ℕ, List}
use Rattle.locale_data.specs.Formats.{IsRowElse}
use Rattle.locale_names.specs.declared.tables.{rows.locales.LocaleNames.LocaleNames, locales.TheConstants.{LOCALES, ROOT}}

-- the row of a tag: that of the longest tag that is a prefix of it, or else that of root
abbrev pub IsLocaleRow : List ℕ → LocaleNames → Type 0
IsLocaleRow = IsRowElse (λ l. l.tag) LOCALES ROOT
