-- The names of currencies in a locale.
use Rattle.std.specs.{Prelude.{◌≡◌, ℕ, ◌+◌, ◌*◌, ◌/◌, ◌%◌, ◌^◌, ◌==◌, Bool, if◌then◌else◌, List, [], map, find, length, Option, None, Some, slice_get, unwrap_or}, Char.to_ascii_uppercase, Option.{option_or, option_map, option_and_then}, Str.is_utf8}
use Rattle.plural_rules.specs.declared.rules.PluralCategory.{PluralCategory, TheVariants.Other}
use Rattle.locale_data.specs.{Rows.row_named, Tag.compared}
use Rattle.locale_names.specs.{declared.{locale_currencies.CurrencyNames.CurrencyNames, tables.{rows.{currencies.{CurrencyRow.CurrencyRow, NamePattern.NamePattern}, locales.LocaleNames.LocaleNames}, currencies.TheConstants.{CURRENCY_CODES, NAME_ENTRIES, NAME_PATTERNS, NAME_RUNS}}}, Entries.{kind_of, entries_in, entry_for, run_in}, LocaleRow.IsLocaleRow, Texts.{name_text, text_or_nothing}}

-- the run of a currency in a list, and none of one that is not listed
abbrev pub run_at : ℕ → Option ℕ → ℕ
run_at list None = 0
run_at list (Some index) = run_in NAME_RUNS (list * length CURRENCY_CODES + index)

-- an index is that of the currency with a code
abbrev pub IsIndexOf : List ℕ → Option ℕ → Type 0
IsIndexOf code index =
    option_and_then (slice_get CURRENCY_CODES) index ≡ row_named (λ c. c.code) CURRENCY_CODES (compared code)

-- the rows of a currency in the locale of a tag, and its code in upper case
pub record AreNamesOf (tag code : List ℕ) (names : CurrencyNames) : Type 0 where
  pub locale : LocaleNames
  pub index : Option ℕ
  pub of_tag : IsLocaleRow tag locale
  pub of_code : IsIndexOf code index
  pub run : names.names ≡ run_at locale.names index
  pub patterns : names.patterns ≡ locale.name_patterns
  pub upper : names.code ≡ map to_ascii_uppercase code

-- the text of an entry: 21 bits are the start of its text, and 8 its length
abbrev pub text_of : ℕ → List ℕ
text_of entry = name_text (entry / 2 ^ 11) (entry / 2 ^ 3 % 256)

-- the name for a category, or else for `other`, if the locale has one
abbrev pub listed_name : ℕ → PluralCategory → Option (List ℕ)
listed_name run category = option_map text_of (entry_for (λ entry. entry) category (entries_in NAME_ENTRIES run))

-- that name, or else the code
abbrev pub name_for : CurrencyNames → PluralCategory → List ℕ
name_for names category = unwrap_or (listed_name names.names category) (text_or_nothing names.code)

-- the pattern of a category
abbrev pub pattern_of : PluralCategory → List NamePattern → Option NamePattern
pattern_of category patterns = find (λ p. kind_of p.category == kind_of category) patterns

-- the pattern for a category, or else for `other`
abbrev pub pattern_for : CurrencyNames → PluralCategory → Option NamePattern
pattern_for names category =
    let patterns = entries_in NAME_PATTERNS names.patterns in
    option_or (pattern_of category patterns) (pattern_of Other patterns)
