-- The tables of currencies are sorted, and their indices are those of rows, by computation.
use Rattle.std.proofs.{Common.{◌≡◌, ℕ, ◌<◌, ◌&&◌, nat_lt, Bool, true, List, length, Option, Some, None, refl, sym, ◌∙◌, inl, inr}, lemmas.{Bool.and_parts, Option.none-some}}
use Rattle.std.specs.{Prelude.{IfSome, IsSomeAnd, slice_get}, List.{list_all, Contains}, Str.{is_utf8, chars}}
use Rattle.locale_data.specs.{declared.{currency.{CurrencyId.CurrencyId, SymbolWidth.{SymbolWidth, TheVariants.{Wide, Narrow}}}, tables.{rows.{currencies.{Currency.Currency, CurrencyText.CurrencyText, LocaleCurrency.LocaleCurrency, LocaleOverride.LocaleOverride}, patterns.CurrencyOverride.CurrencyOverride}, currencies.TheConstants.{CURRENCIES, CURRENCY_BYTES, CURRENCY_SYMBOLS, CURRENCY_TEXTS, OVERRIDES_BY_CURRENCY}, formats.TheConstants.{CURRENCY_OVERRIDES, PATTERNS}}}, Currencies.{symbol_index, IsSymbolRow, IsOverrideRow, LacksCurrency}, Rows.part, SortedRows.{key, is_table}, Texts.is_text}
use Rattle.locale_data.proofs.lemmas.tables.{EachRow.{passes, below, contains_at, not_past}, TableTexts.{passes_at, rests, table_rests, is_text_by, text-by}}

-- ---- The tables are sorted.

pub currencies_are_table : is_table (λ c. c.code) CURRENCIES ≡ true
unfolding key
currencies_are_table = refl

abbrev has_symbols : Currency → Bool
has_symbols c = is_table (λ (l : LocaleCurrency). l.tag) (part CURRENCY_SYMBOLS c.symbols)

currencies_have_symbols : list_all has_symbols CURRENCIES ≡ true
unfolding key
currencies_have_symbols = refl

pub has_symbols_if_listed : (c : Currency) → Contains CURRENCIES c → has_symbols c ≡ true
has_symbols_if_listed c listed = passes has_symbols CURRENCIES c currencies_have_symbols listed

abbrev has_overrides : Currency → Bool
has_overrides c = is_table (λ (l : LocaleOverride). l.tag) (part OVERRIDES_BY_CURRENCY c.overrides)

currencies_have_overrides : list_all has_overrides CURRENCIES ≡ true
unfolding key
currencies_have_overrides = refl

pub has_overrides_if_listed : (c : Currency) → Contains CURRENCIES c → has_overrides c ≡ true
has_overrides_if_listed c listed = passes has_overrides CURRENCIES c currencies_have_overrides listed

-- ---- The indices are those of rows.

abbrev symbols_fit : LocaleCurrency → Bool
symbols_fit l = nat_lt l.symbol (length CURRENCY_TEXTS) && nat_lt l.narrow (length CURRENCY_TEXTS)

abbrev root_fits : Currency → Bool
root_fits c = nat_lt c.symbol (length CURRENCY_TEXTS) && nat_lt c.narrow (length CURRENCY_TEXTS)

roots_fit : list_all root_fits CURRENCIES ≡ true
roots_fit = refl

rows_fit : list_all (λ c. list_all symbols_fit (part CURRENCY_SYMBOLS c.symbols)) CURRENCIES ≡ true
rows_fit = refl

pub symbol-below : (c : Currency) (tag : List ℕ) (own : Option LocaleCurrency) (width : SymbolWidth)
    → Contains CURRENCIES c → IsSymbolRow c tag own → symbol_index c own width < length CURRENCY_TEXTS
symbol-below c tag own width listed is =
    by own width is (and_parts (nat_lt c.symbol (length CURRENCY_TEXTS)) (nat_lt c.narrow (length CURRENCY_TEXTS))
    (passes root_fits CURRENCIES c roots_fit listed))
    (passes (λ (c : Currency). list_all symbols_fit (part CURRENCY_SYMBOLS c.symbols)) CURRENCIES c rows_fit listed)
  where
    of_row : (l : LocaleCurrency) → IsSymbolRow c tag (Some l)
        → list_all symbols_fit (part CURRENCY_SYMBOLS c.symbols) ≡ true
        → (nat_lt l.symbol (length CURRENCY_TEXTS) ≡ true) × (nat_lt l.narrow (length CURRENCY_TEXTS) ≡ true)
    of_row l is each =
        and_parts (nat_lt l.symbol (length CURRENCY_TEXTS)) (nat_lt l.narrow (length CURRENCY_TEXTS))
        (passes symbols_fit (part CURRENCY_SYMBOLS c.symbols) l each is.0)

    by : (own : Option LocaleCurrency) (width : SymbolWidth) → IsSymbolRow c tag own
        → (nat_lt c.symbol (length CURRENCY_TEXTS) ≡ true) × (nat_lt c.narrow (length CURRENCY_TEXTS) ≡ true)
        → list_all symbols_fit (part CURRENCY_SYMBOLS c.symbols) ≡ true
        → symbol_index c own width < length CURRENCY_TEXTS
    by None Wide is root each = below c.symbol (length CURRENCY_TEXTS) root.0
    by None Narrow is root each = below c.narrow (length CURRENCY_TEXTS) root.1
    by (Some l) Wide is root each = below l.symbol (length CURRENCY_TEXTS) (of_row l is each).0
    by (Some l) Narrow is root each = below l.narrow (length CURRENCY_TEXTS) (of_row l is each).1

abbrev is_currency_text : CurrencyText → Bool
is_currency_text t = is_text_by (table_rests CURRENCY_BYTES) t.bytes

texts_are_texts : list_all is_currency_text CURRENCY_TEXTS ≡ true
unfolding rests is_utf8 chars lib.Utf8.encode
texts_are_texts = refl

pub text_if_listed : (t : CurrencyText) → Contains CURRENCY_TEXTS t → is_text CURRENCY_BYTES t.bytes ≡ true
text_if_listed t listed =
    text-by CURRENCY_BYTES t.bytes (passes is_currency_text CURRENCY_TEXTS t texts_are_texts listed)

abbrev override_fits : LocaleOverride → Bool
override_fits l = nat_lt l.pattern (length CURRENCY_OVERRIDES)

overrides_fit : list_all (λ c. list_all override_fits (part OVERRIDES_BY_CURRENCY c.overrides)) CURRENCIES ≡ true
overrides_fit = refl

pub override-below : (c : Currency) (tag : List ℕ) (l : LocaleOverride) → Contains CURRENCIES c
    → IsOverrideRow c tag (Some l) → l.pattern < length CURRENCY_OVERRIDES
override-below c tag l listed is =
    let each = passes (λ (c : Currency). list_all override_fits (part OVERRIDES_BY_CURRENCY c.overrides)) CURRENCIES c
    overrides_fit listed in
    below l.pattern (length CURRENCY_OVERRIDES)
    (passes override_fits (part OVERRIDES_BY_CURRENCY c.overrides) l each is.0)

patterns_fit : list_all (λ o. nat_lt o.pattern (length PATTERNS)) CURRENCY_OVERRIDES ≡ true
patterns_fit = refl

pub overridden-below : (i : ℕ) (o : CurrencyOverride) → slice_get CURRENCY_OVERRIDES i ≡ Some o
    → o.pattern < length PATTERNS
overridden-below i o at =
    below o.pattern (length PATTERNS)
    (passes_at (λ (o : CurrencyOverride). nat_lt o.pattern (length PATTERNS)) CURRENCY_OVERRIDES i o patterns_fit at)

-- the rows that are found exist
pub has_rows : (c : Currency) (tag : List ℕ) (own : Option LocaleCurrency) (id : CurrencyId)
    → slice_get CURRENCIES id.currency ≡ Some c → IsSymbolRow c tag own → id.wide ≡ symbol_index c own Wide
    → id.narrow ≡ symbol_index c own Narrow → IfSome id.pattern (λ i. i < length CURRENCY_OVERRIDES)
    → LacksCurrency id → ⊥
has_rows c tag own id at is wide narrow inside lacks =
    let listed = contains_at CURRENCIES id.currency c at in
    elim lacks [
      | inl none ↦ none-some c (sym none ∙ at)
      | inr rest ↦ elim rest [
        | inl none ↦ not_past CURRENCY_TEXTS id.wide (rw wide (symbol-below c tag own Wide listed is)) none
        | inr rest ↦ elim rest [
          | inl none ↦ not_past CURRENCY_TEXTS id.narrow (rw narrow (symbol-below c tag own Narrow listed is)) none
          | inr none ↦ no_override id.pattern inside none
        ]
      ]
    ]
  where
    no_override : (o : Option ℕ) → IfSome o (λ i. i < length CURRENCY_OVERRIDES)
        → IsSomeAnd o (λ i. slice_get CURRENCY_OVERRIDES i ≡ None) → ⊥
    no_override None inside none = none
    no_override (Some i) inside none = not_past CURRENCY_OVERRIDES i inside none
