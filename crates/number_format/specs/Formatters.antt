-- The formatter that a tag and options name.
use Rattle.std.specs.{Prelude.{◌≡◌, ℕ, ◌==◌, Bool, true, false, ◌⊎◌, if◌then◌else◌, List, [], slice_get, Option, Some, None, unwrap_or, IsSomeAnd, MatchOption, pos, ⊤}, Option.option_map}
use Rattle.fixed_decimal.specs.declared.variations.SignDisplay.{SignDisplay}
use Rattle.decimal_format.specs.{Symbols.Symbols, declared.grouping.{GroupingSizes.GroupingSizes, GroupingStrategy.GroupingStrategy}}
use Rattle.locale_data.specs.{declared.{compact.CompactStyle.CompactStyle, currency.{CurrencyId.CurrencyId, CurrencyPattern.CurrencyPattern, CurrencySign.CurrencySign}, local_currency.{CurrencyDigits.CurrencyDigits, LocalCurrency.LocalCurrency}, locales.LocaleId.LocaleId, tables.{formats.TheConstants.{PATTERNS, NUMBER_SIGNS}, rows.patterns.{NumberSigns.NumberSigns, Pattern.Pattern}}, number_formats.NumberFormats.NumberFormats, plurals.PluralRuleType.TheVariants.Cardinal}, Compact.AreExponents, Currencies.{currency_with, digits_of, IsCurrencyId, IsCurrencyAt, IsCurrencyPattern, LacksCurrency}, Formats.AreFormatsOf, Locales.{symbols_at, system_named, system_name_at, AreRowsOf, IsLocale, IsLocaleIn, IsUnknown}, Patterns.{separator_text, exponent_text}, Plurals.{rules_text_at, IsRulesText, HasNoRules}}
use Rattle.number_format.specs.{declared.{digits.options.DigitOptions.DigitOptions, notation.Notation.Notation, format.{outer.OuterTexts.OuterTexts, ids.{FormatterIds.FormatterIds, NumberFormatError.NumberFormatError}, formatter.NumberFormatter.NumberFormatter, currency.ShownCurrency.ShownCurrency}, options.{CurrencyStyle.CurrencyStyle, DecimalSeparatorDisplay.DecimalSeparatorDisplay, GroupSizes.GroupSizes, NumberNotation.NumberNotation, NumberOptions.NumberOptions, NumberStyle.NumberStyle}}, DefaultDigits.AreDefaultDigits, NumberStyles.{plain_pattern, money_pattern, percent_text, percent_kind, in_system, outer_for, outer_alone, AreOuterTexts, IsShownBy, IsShownCurrency}, NumberText.compact_style}

-- ---- What options say by themselves.

-- without a sign the pattern of accounts is not used
abbrev pub currency_sign : SignDisplay → CurrencySign → CurrencySign
currency_sign SignDisplay.Never s = CurrencySign.Standard
currency_sign other s = s

-- groups of three; or the sizes of a pattern, by `Always` 3 if it has none; the least number of digits is that of the
-- locale
abbrev pub style_sizes : Pattern → GroupSizes → GroupingStrategy → GroupingSizes → GroupingSizes
style_sizes p GroupSizes.Thousands strategy own = record own { primary = 3; secondary = 3 }
style_sizes p GroupSizes.Locale GroupingStrategy.Always own =
    record own { primary = if p.primary == 0 then 3 else p.primary; secondary = p.secondary }
style_sizes p GroupSizes.Locale other own = record own { primary = p.primary; secondary = p.secondary }

-- the separators of money, or else those of other numbers
abbrev pub with_separators : Symbols → CurrencyPattern → Symbols
with_separators s p = record s {
  decimal = unwrap_or (option_map separator_text p.decimal) s.decimal;
  grouping = unwrap_or (option_map separator_text p.grouping) s.grouping;
}

-- a pattern with the separators of other numbers, and no currency
pub record IsWithoutCurrency (pattern : Pattern) (p : CurrencyPattern) (shown : ShownCurrency) : Type 0 where
  pub written : p ≡ record { pattern = pattern; decimal = None; grouping = None }
  pub hidden : IsShownBy [] false false shown

-- the pattern of percentages is that of percent, of permille and of a unit without texts, but not in compact notation
abbrev pub has_percent_pattern : NumberNotation → NumberStyle → OuterTexts → Bool
has_percent_pattern (NumberNotation.Compact words) style texts = false
has_percent_pattern n NumberStyle.Percent texts = true
has_percent_pattern n NumberStyle.Permille texts = true
has_percent_pattern n (NumberStyle.Unit u) OuterTexts.None = true
has_percent_pattern n style texts = false

-- the pattern of percentages, or that of plain numbers
abbrev pub IsNumberPattern : Bool → GroupingSizes → NumberFormats → CurrencyPattern → ShownCurrency → Type 0
IsNumberPattern false sizes formats p shown = IsWithoutCurrency (plain_pattern sizes) p shown
IsNumberPattern true sizes formats p shown =
    (slice_get PATTERNS formats.percent ≡ Some p.pattern) × IsWithoutCurrency p.pattern p shown

-- the pattern of an amount, with its symbol
pub record IsMoney (system : List ℕ) (sizes : GroupingSizes) (formats : NumberFormats)
    (currency : Option LocalCurrency) (display : SignDisplay) (c : CurrencyStyle) (p : CurrencyPattern)
    (shown : ShownCurrency) : Type 0 where
  pub written : CurrencyPattern
  pub own : ShownCurrency
  pub written_is : IsCurrencyPattern formats currency (currency_sign display c.sign) written
  pub pattern : p ≡ money_pattern c.display sizes written
  pub own_is : IsShownCurrency currency c own
  pub shown_is : shown ≡ in_system system own

-- the pattern, the separators and the currency of a style
abbrev pub IsStyle : NumberStyle → NumberNotation → OuterTexts → List ℕ → GroupingSizes → NumberFormats
    → Option LocalCurrency → SignDisplay → CurrencyPattern → ShownCurrency → Type 0
IsStyle (NumberStyle.Currency c) n texts system sizes formats currency display =
    IsMoney system sizes formats currency display c
IsStyle style n texts system sizes formats currency display =
    IsNumberPattern (has_percent_pattern n style texts) sizes formats

-- the digits of a currency; of one that is not listed those of no currency
abbrev pub digits_by : Option LocalCurrency → CurrencyDigits
digits_by None = digits_of None
digits_by (Some c) = c.digits

-- the digits that the options have, or else the default ones
abbrev pub AreShownDigits : Option LocalCurrency → NumberOptions → Option DigitOptions → Type 0
AreShownDigits currency o digits =
    MatchOption o.digits (AreDefaultDigits (digits_by currency) o digits) (λ given. digits ≡ Some given)

-- ---- The formatter.

-- the notation of options; the exponents of compact notation are those of the locale's patterns
abbrev pub IsNotationBy : NumberFormats → NumberNotation → Option CompactStyle → Notation → Type 0
IsNotationBy formats other (Some words) (Notation.Compact table) = AreExponents formats words table.rows
IsNotationBy formats (NumberNotation.Scientific o) None Notation.Scientific = ⊤
IsNotationBy formats (NumberNotation.Engineering o) None Notation.Engineering = ⊤
IsNotationBy formats NumberNotation.Standard None Notation.Standard = ⊤
IsNotationBy formats other words n = ⊥

-- the formatter of the symbols, the currency and the outer texts of a locale, and of a numbering system
pub record IsFormatterBy (own : Symbols) (system : List ℕ) (currency : Option LocalCurrency) (texts : OuterTexts)
    (o : NumberOptions) (f : NumberFormatter) : Type 0 where
  pub signs : NumberSigns
  pub written : CurrencyPattern
  pub signs_are : slice_get NUMBER_SIGNS f.formats.signs ≡ Some signs
  pub outer : f.outer ≡ outer_for o.style texts
  pub style_is :
      IsStyle o.style o.notation f.outer system own.sizes f.formats currency o.sign_display written f.style.currency
  pub symbols : f.style.symbols
      ≡ record (with_separators own written) {
        sizes = style_sizes written.pattern o.group_sizes o.grouping own.sizes;
      }
  pub pattern : f.style.pattern ≡ written.pattern
  pub percent : f.style.percent.text.now ≡ percent_text o.style signs
  pub percent_kind_is : f.style.percent.kind ≡ percent_kind o.style
  pub separator : f.separator.text.now ≡ exponent_text signs.exponent
  pub options : f.options ≡ o
  pub notation_is : IsNotationBy f.formats o.notation (compact_style o.notation o.style) f.notation
  pub digits : AreShownDigits currency o f.digits

-- ---- Rows.

-- the numbering system of a name, or else that of the rows
abbrev pub system_text : LocaleId → Option (List ℕ) → Option (List ℕ)
system_text id None = system_name_at id
system_text id (Some name) = Some name

-- what a row has for a currency, if there is one
abbrev pub IsCurrencyBy : Option CurrencyId → Option LocalCurrency → Type 0
IsCurrencyBy None currency = currency ≡ None
IsCurrencyBy (Some id) currency = IsSomeAnd currency (IsCurrencyAt id)

-- the formatter that rows, texts around the whole text and options make
pub record IsFormatterWith (ids : FormatterIds) (texts : OuterTexts) (o : NumberOptions) (f : NumberFormatter)
    : Type 0 where
  pub own : Symbols
  pub system : List ℕ
  pub currency : Option LocalCurrency
  pub symbols_are : symbols_at ids.symbols ≡ Some own
  pub system_is : system_text ids.symbols o.numbering_system ≡ Some system
  pub currency_is : IsCurrencyBy ids.currency currency
  pub formats : f.formats ≡ ids.formats
  pub rules : f.rules ≡ ids.rules
  pub made : IsFormatterBy own system currency texts o f

-- that of one number, and that of ranges
abbrev pub IsFormatterAt : FormatterIds → NumberOptions → NumberFormatter → Type 0
IsFormatterAt ids o = IsFormatterWith ids (outer_alone o.style o.notation ids.outer) o

abbrev pub IsRangeFormatterAt : FormatterIds → NumberOptions → NumberFormatter → Type 0
IsRangeFormatterAt ids = IsFormatterWith ids ids.outer

-- a table has no such row
abbrev pub LacksRows : FormatterIds → Type 0
LacksRows ids =
    (symbols_at ids.symbols ≡ None)
    ⊎ ((rules_text_at ids.rules ≡ None) ⊎ IsSomeAnd ids.currency LacksCurrency)

-- the rows of the symbols of a tag, in the numbering system with a name, or else in that of the tag
abbrev pub AreSymbolsOf : List ℕ → Option (List ℕ) → LocaleId → Type 0
AreSymbolsOf tag None id = IsSomeAnd (symbols_at id) (IsLocale tag) × AreRowsOf tag id.locale id.system
AreSymbolsOf tag (Some name) id = IsSomeAnd (symbols_at id) (IsLocaleIn tag name)

-- the rows of the currency of a style, if it is listed
abbrev pub IsCurrencyRow : List ℕ → NumberStyle → Option CurrencyId → Type 0
IsCurrencyRow tag (NumberStyle.Currency c) row =
    MatchOption row (currency_with c.code ≡ None) (IsCurrencyId tag c.code)
IsCurrencyRow tag other row = row ≡ None

-- the rows of a known tag for options
pub record AreIdsOf (tag : List ℕ) (o : NumberOptions) (ids : FormatterIds) : Type 0 where
  pub known : ¬ IsUnknown tag
  pub system : List ℕ
  pub symbols : AreSymbolsOf tag o.numbering_system ids.symbols
  pub system_is : system_text ids.symbols o.numbering_system ≡ Some system
  pub formats : AreFormatsOf tag system ids.formats
  pub rules : IsSomeAnd (rules_text_at ids.rules) (IsRulesText tag Cardinal)
  pub currency : IsCurrencyRow tag o.style ids.currency
  pub outer : AreOuterTexts tag o.style o.notation ids.outer

-- ---- The formatter of a tag.

-- the formatter of the rows of a known tag
pub record IsFormatter (tag : List ℕ) (o : NumberOptions) (f : NumberFormatter) : Type 0 where
  pub ids : FormatterIds
  pub ids_are : AreIdsOf tag o ids
  pub at : IsFormatterAt ids o f

-- that of ranges
pub record IsRangeFormatter (tag : List ℕ) (o : NumberOptions) (f : NumberFormatter) : Type 0 where
  pub ids : FormatterIds
  pub ids_are : AreIdsOf tag o ids
  pub at : IsRangeFormatterAt ids o f

-- the tag is unknown, or has no plural rules, which each listed locale has; or the tag is known, and the numbering
-- system of the options is not listed
abbrev pub IsFormatterError : List ℕ → Option (List ℕ) → NumberFormatError → Type 0
IsFormatterError tag name NumberFormatError.UnknownLocale = IsUnknown tag ⊎ HasNoRules tag
IsFormatterError tag None NumberFormatError.UnknownNumberingSystem = ⊥
IsFormatterError tag (Some name) NumberFormatError.UnknownNumberingSystem =
    (¬ IsUnknown tag) × (system_named name ≡ None)

-- a decimal in standard notation, without digits, a scale or a sign of their own
abbrev pub plain_options : GroupingStrategy → Option (List ℕ) → NumberOptions
plain_options grouping system = record {
  style = NumberStyle.Decimal;
  scale = pos 0;
  notation = NumberNotation.Standard;
  digits = None;
  sign_display = SignDisplay.Auto;
  grouping = grouping;
  group_sizes = GroupSizes.Locale;
  decimal_separator = DecimalSeparatorDisplay.Auto;
  numbering_system = system;
}
