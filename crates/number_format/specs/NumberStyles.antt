-- What a style of numbers writes: its pattern, its percent sign, its currency, and what is around the whole text.
use Rattle.std.specs.{Prelude.{◌≡◌, ℕ, Bool, true, false, not, codes, ◌&&◌, if◌then◌else◌, List, [], Option, Some, None, is_some}, Option.{option_map, option_map_or}, Str.bytes_eq}
use Rattle.decimal_format.specs.declared.grouping.GroupingSizes.{GroupingSizes}
use Rattle.locale_data.specs.{declared.{currency.CurrencyPattern.CurrencyPattern, local_currency.{CurrencySymbol.CurrencySymbol, LocalCurrency.LocalCurrency}, tables.rows.patterns.{Affix.Affix, AffixPair.AffixPair, NumberSigns.NumberSigns, Pattern.Pattern, Piece.{Piece, TheVariants.{Empty, Minus, Plus, Currency}}}}}
use Rattle.locale_data.specs.Patterns as pattern
use Rattle.locale_names.specs.{declared.{locale_currencies.CurrencyNames.CurrencyNames, locale_units.{UnitDisplay.UnitDisplay, UnitPatterns.UnitPatterns}, tables.rows.units.UnitRow.UnitRow, unit_id.UnitId.UnitId}, LocaleCurrencies.AreNamesOf, LocaleUnits.AreRowsOf, Texts.short_text, Units.row_of}
use Rattle.number_format.specs.declared.{options.{CurrencyDisplay.CurrencyDisplay, CurrencyStyle.CurrencyStyle, NumberNotation.NumberNotation, NumberStyle.NumberStyle, PerDisplay.PerDisplay, UnitStyle.UnitStyle}, format.{currency.ShownCurrency.ShownCurrency, outer.OuterTexts.OuterTexts, text_part.PartKind.PartKind}}

-- ---- Patterns.

-- an affix of one piece
abbrev pub affix_of : Piece → Affix
affix_of piece = record { first = piece; second = Empty; third = Empty; fourth = Empty }

abbrev pub before : Piece → AffixPair
before piece = record { prefix = affix_of piece; suffix = affix_of Empty }

-- the pattern of plain numbers: a sign before the number
abbrev pub plain_pattern : GroupingSizes → Pattern
plain_pattern sizes = record {
  positive = before Empty;
  negative = before Minus;
  plus = before Plus;
  primary = sizes.primary;
  secondary = sizes.secondary;
}

-- a piece, or another one if it is empty
abbrev pub piece_or : Piece → Piece → Piece
piece_or Empty other = other
piece_or piece other = piece

abbrev pub is_currency : Piece → Bool
is_currency Currency = true
is_currency piece = false

-- the last piece that is not empty is the currency
abbrev pub ends_with_currency : Affix → Bool
ends_with_currency a = is_currency (piece_or a.fourth (piece_or a.third (piece_or a.second a.first)))

-- the first piece that is not empty is the currency
abbrev pub begins_with_currency : Affix → Bool
begins_with_currency a = is_currency (piece_or a.first (piece_or a.second (piece_or a.third a.fourth)))

-- the percent sign, or the per mille sign
abbrev pub percent_text : NumberStyle → NumberSigns → List ℕ
percent_text NumberStyle.Permille signs = pattern.permille_text signs.permille
percent_text other signs = pattern.percent_text signs.percent

-- the percent sign of the unit `percent` is a unit
abbrev pub percent_kind : NumberStyle → PartKind
percent_kind (NumberStyle.Unit u) = PartKind.Unit
percent_kind other = PartKind.PercentSign

-- ---- What is around the whole text.

abbrev pub is_long : UnitDisplay → Bool
is_long UnitDisplay.Long = true
is_long other = false

abbrev pub name_of : UnitId → List ℕ
name_of id = option_map_or (λ (row : UnitRow). short_text row.name) (row_of id) []

-- the unit `percent` is written by the pattern of percentages, but not by its long name, and not in compact notation
abbrev pub is_percentage : UnitStyle → NumberNotation → Bool
is_percentage u (NumberNotation.Compact words) = false
is_percentage u other = bytes_eq (name_of u.unit.unit) (codes "percent") && not (is_long u.display)

-- the texts of a unit; a percentage has none
abbrev pub AreUnitTexts : Bool → List ℕ → UnitStyle → OuterTexts → Type 0
AreUnitTexts true tag u texts = texts ≡ OuterTexts.None
AreUnitTexts false tag u texts =
    (rows : UnitPatterns) × AreRowsOf tag u.unit u.display rows × (texts ≡ OuterTexts.Units rows)

-- the name of a currency is written
abbrev pub shows_name : CurrencyDisplay → Bool
shows_name CurrencyDisplay.Name = true
shows_name other = false

-- the texts of a currency, if its name is written
abbrev pub AreNameTexts : Bool → List ℕ → List ℕ → OuterTexts → Type 0
AreNameTexts false tag code texts = texts ≡ OuterTexts.None
AreNameTexts true tag code texts =
    (names : CurrencyNames) × AreNamesOf tag code names × (texts ≡ OuterTexts.Names names)

-- what is around the whole text in the locale of a tag; the unit `percent` alone has nothing, but `1–2%/h` has `%/h`
abbrev pub AreOuterTexts : List ℕ → NumberStyle → NumberNotation → OuterTexts → Type 0
AreOuterTexts tag (NumberStyle.Unit u) notation =
    AreUnitTexts (not (is_some u.unit.per) && is_percentage u notation) tag u
AreOuterTexts tag (NumberStyle.Currency c) notation = AreNameTexts (shows_name c.display) tag c.code
AreOuterTexts tag other notation = λ texts. texts ≡ OuterTexts.None

abbrev pub is_auto : PerDisplay → Bool
is_auto PerDisplay.Auto = true
is_auto PerDisplay.Always = false

-- the unit after `per` is not written beside one number: it is `1%` of percent per hour
abbrev pub hides_per : UnitStyle → NumberNotation → Bool
hides_per u notation = is_some u.unit.per && (is_auto u.per_display && is_percentage u notation)

-- what of it is around one number
abbrev pub outer_alone : NumberStyle → NumberNotation → OuterTexts → OuterTexts
outer_alone (NumberStyle.Unit u) notation texts = if hides_per u notation then OuterTexts.None else texts
outer_alone other notation texts = texts

-- only units and currencies have texts around the whole text
abbrev pub outer_for : NumberStyle → OuterTexts → OuterTexts
outer_for (NumberStyle.Unit u) texts = texts
outer_for (NumberStyle.Currency c) texts = texts
outer_for other texts = OuterTexts.None

-- ---- Currencies.

-- the symbol of a currency, or its code
abbrev pub currency_text : ShownCurrency → List ℕ
currency_text c = if c.shows_code then c.code else c.symbol.text.now

-- a currency has this text, and spaces separate it or not from a digit before it and from one after it
abbrev pub IsShownBy : List ℕ → Bool → Bool → ShownCurrency → Type 0
IsShownBy text before after shown =
    (currency_text shown ≡ text) × (shown.space_before ≡ before) × (shown.space_after ≡ after)

-- its symbol, or else its code between spaces
abbrev pub IsShownWith : Option CurrencySymbol → ShownCurrency → Type 0
IsShownWith (Some symbol) shown = IsShownBy symbol.text.now symbol.space_before symbol.space_after shown
IsShownWith None shown = IsShownBy shown.code true true shown

-- by its symbol or its narrow symbol
abbrev pub IsDisplayed : CurrencyDisplay → Option CurrencySymbol → Option CurrencySymbol → ShownCurrency → Type 0
IsDisplayed CurrencyDisplay.Symbol wide narrow = IsShownWith wide
IsDisplayed CurrencyDisplay.Narrow wide narrow = IsShownWith narrow
IsDisplayed CurrencyDisplay.Code wide narrow = IsShownWith None
IsDisplayed CurrencyDisplay.Name wide narrow = IsShownWith wide
IsDisplayed CurrencyDisplay.Hidden wide narrow = IsShownBy [] false false

abbrev pub symbol_text : Option CurrencySymbol → List ℕ
symbol_text symbol = option_map_or (λ s. s.text.now) symbol []

abbrev pub wide_symbol : Option LocalCurrency → Option CurrencySymbol
wide_symbol = option_map (λ c. c.wide)

abbrev pub narrow_symbol : Option LocalCurrency → Option CurrencySymbol
narrow_symbol = option_map (λ c. c.narrow)

-- a currency, listed or not, as a style shows it, with the texts that name it
pub record IsShownCurrency (currency : Option LocalCurrency) (style : CurrencyStyle) (shown : ShownCurrency)
    : Type 0 where
  pub code_is : shown.code ≡ style.code
  pub displayed : IsDisplayed style.display (wide_symbol currency) (narrow_symbol currency) shown
  pub named :
      (shown.wide.now ≡ symbol_text (wide_symbol currency)) × (shown.narrow.now ≡ symbol_text (narrow_symbol currency))

-- a digit of `hanidec` is a letter, which no space separates from a currency
abbrev pub keeps_spaces : List ℕ → Bool
keeps_spaces system = not (bytes_eq system (codes "hanidec"))

abbrev pub in_system : List ℕ → ShownCurrency → ShownCurrency
in_system system c =
    let spaced = keeps_spaces system in
    record c { space_before = c.space_before && spaced; space_after = c.space_after && spaced }

-- a currency has a pattern of its own: only those in the tables give both separators
abbrev pub is_own : CurrencyPattern → Bool
is_own p = is_some p.decimal && is_some p.grouping

-- the pattern of an amount: that of plain numbers with a name, if the currency has none of its own
abbrev pub money_pattern : CurrencyDisplay → GroupingSizes → CurrencyPattern → CurrencyPattern
money_pattern display sizes p =
    if shows_name display && not (is_own p) then record p { pattern = plain_pattern sizes } else p
