-- The digits, symbols and patterns of currencies.
use Rattle.std.specs.{Prelude.{◌≡◌, ℕ, ◌⊎◌, List, Option, None, Some, IsSomeAnd, slice_get}, Option.{option_or, option_map, option_and_then}}
use Rattle.locale_data.specs.{declared.{tables.{rows.{currencies.{Currency.Currency, CurrencyText.CurrencyText, LocaleCurrency.LocaleCurrency, LocaleOverride.LocaleOverride}, patterns.MoneyFormat.MoneyFormat}, currencies.TheConstants.{CURRENCIES, CURRENCY_BYTES, CURRENCY_SYMBOLS, CURRENCY_TEXTS, OVERRIDES_BY_CURRENCY}, formats.TheConstants.{CURRENCY_OVERRIDES, MONEY_FORMATS, PATTERNS}}, local_currency.{CurrencyDigits.CurrencyDigits, CurrencySymbol.CurrencySymbol, LocalCurrency.LocalCurrency}, currency.{CurrencyId.CurrencyId, CurrencyPattern.CurrencyPattern, CurrencySign.{CurrencySign, TheVariants.{Standard, Accounting}}, SymbolWidth.{SymbolWidth, TheVariants.{Wide, Narrow}}}, number_formats.NumberFormats.NumberFormats}, Rows.{part, row_named, IsRowOf}, Tag.compared}

-- the currency with a code
abbrev pub currency_with : List ℕ → Option Currency
currency_with code = row_named (λ c. c.code) CURRENCIES (compared code)

-- the digits of a currency: of one that is not listed 2, 2 in cash, and no increment
abbrev pub digits_of : Option Currency → CurrencyDigits
digits_of None = record { digits = 2; cash_digits = 2; cash_increment = 0 }
digits_of (Some c) = record { digits = c.digits; cash_digits = c.cash_digits; cash_increment = c.cash_increment }

-- ---- Symbols.

-- the symbols of a currency in the locale with the longest tag that is a prefix of a tag, or None
abbrev pub IsSymbolRow : Currency → List ℕ → Option LocaleCurrency → Type 0
IsSymbolRow c = IsRowOf (λ l. l.tag) (part CURRENCY_SYMBOLS c.symbols)

-- the index of a symbol: that of a locale, or else that of root
abbrev pub symbol_index : Currency → Option LocaleCurrency → SymbolWidth → ℕ
symbol_index c (Some own) Wide = own.symbol
symbol_index c (Some own) Narrow = own.narrow
symbol_index c None Wide = c.symbol
symbol_index c None Narrow = c.narrow

-- a symbol with its text
pub record IsSymbol (text : CurrencyText) (symbol : CurrencySymbol) : Type 0 where
  pub shown : symbol.text.now ≡ part CURRENCY_BYTES text.bytes
  pub before : symbol.space_before ≡ text.space_before
  pub after : symbol.space_after ≡ text.space_after

-- the symbol with an index, or None
abbrev pub IsSymbolAt : ℕ → Option CurrencySymbol → Type 0
IsSymbolAt index None = slice_get CURRENCY_TEXTS index ≡ None
IsSymbolAt index (Some symbol) = IsSomeAnd (slice_get CURRENCY_TEXTS index) (λ text. IsSymbol text symbol)

-- the override of a currency in the locale with the longest tag that is a prefix of a tag, or None
abbrev pub IsOverrideRow : Currency → List ℕ → Option LocaleOverride → Type 0
IsOverrideRow c = IsRowOf (λ l. l.tag) (part OVERRIDES_BY_CURRENCY c.overrides)

-- the index of that override, or None
abbrev pub IsOverride : Currency → List ℕ → Option ℕ → Type 0
IsOverride c tag index =
    (row : Option LocaleOverride) × IsOverrideRow c tag row × (index ≡ option_map (λ r. r.pattern) row)

-- ---- The rows of a currency.

-- the rows of a listed currency for a tag
pub record IsCurrencyId (tag code : List ℕ) (id : CurrencyId) : Type 0 where
  pub currency : Currency
  pub own : Option LocaleCurrency
  pub listed : currency_with code ≡ Some currency
  pub at : slice_get CURRENCIES id.currency ≡ Some currency
  pub in_locale : IsSymbolRow currency tag own
  pub wide : id.wide ≡ symbol_index currency own Wide
  pub narrow : id.narrow ≡ symbol_index currency own Narrow
  pub pattern : IsOverride currency tag id.pattern

-- what the rows with these indices have
pub record IsCurrencyAt (id : CurrencyId) (c : LocalCurrency) : Type 0 where
  pub currency : Currency
  pub at : slice_get CURRENCIES id.currency ≡ Some currency
  pub digits : c.digits ≡ digits_of (Some currency)
  pub wide : IsSymbolAt id.wide (Some c.wide)
  pub narrow : IsSymbolAt id.narrow (Some c.narrow)
  pub pattern : c.pattern ≡ id.pattern

-- a table has no row with one of these indices
abbrev pub LacksCurrency : CurrencyId → Type 0
LacksCurrency id =
    (slice_get CURRENCIES id.currency ≡ None)
    ⊎ ((slice_get CURRENCY_TEXTS id.wide ≡ None)
    ⊎ ((slice_get CURRENCY_TEXTS id.narrow ≡ None)
    ⊎ IsSomeAnd id.pattern (λ index. slice_get CURRENCY_OVERRIDES index ≡ None)))

-- ---- Patterns.

-- the pattern and the separators of an override
abbrev pub overridden : ℕ → Option CurrencyPattern
overridden index =
    option_and_then (λ o. option_map (λ p. record { pattern = p; decimal = Some o.decimal; grouping = Some o.grouping })
    (slice_get PATTERNS o.pattern)) (slice_get CURRENCY_OVERRIDES index)

abbrev pub pattern_index : NumberFormats → CurrencySign → ℕ
pattern_index formats Standard = formats.standard
pattern_index formats Accounting = formats.accounting

-- the pattern of an override, or else of the formats, with the separators of money
abbrev pub pattern_by : NumberFormats → MoneyFormat → CurrencySign → Option ℕ → Option CurrencyPattern
pattern_by formats money sign (Some index) = overridden index
pattern_by formats money sign None =
    option_map (λ p. record { pattern = p; decimal = money.decimal; grouping = money.grouping })
    (slice_get PATTERNS (pattern_index formats sign))

-- the pattern of a currency, of which a locale has this: by its override, or else by that of the region, or else by
-- the formats
pub record IsCurrencyPattern (formats : NumberFormats) (currency : Option LocalCurrency) (sign : CurrencySign)
    (p : CurrencyPattern) : Type 0 where
  pub money : MoneyFormat
  pub of_money : slice_get MONEY_FORMATS formats.money ≡ Some money
  pub value :
      pattern_by formats money sign (option_or (option_and_then (λ c. c.pattern) currency) money.replaced) ≡ Some p
