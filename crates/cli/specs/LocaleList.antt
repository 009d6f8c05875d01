-- The text of `--locales`.
use Rattle.std.specs.Prelude.{ℕ, List, [], ◌∷◌, ◌++◌}
use Rattle.locale_data.specs.{declared.tables.{rows.symbols.LocaleSymbols.LocaleSymbols, symbols.TheConstants.LOCALES}, Rows.unpadded}

-- the tag of a locale, and a line feed
abbrev pub tag_line : LocaleSymbols → List ℕ
tag_line locale = unpadded locale.tag ++ (10 ∷ [])

-- the tags of locales, one a line
abbrev pub tag_lines : List LocaleSymbols → List ℕ
tag_lines [] = []
tag_lines (locale ∷ locales) = tag_line locale ++ tag_lines locales

-- the tags of the listed locales
unfoldable pub locales_text : List ℕ
locales_text = tag_lines LOCALES
