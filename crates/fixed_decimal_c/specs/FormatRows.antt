-- The rows of a formatter, as C keeps them.
use Rattle.std.specs.Prelude.{◌≡◌, ◌==◌, ◌-◌, ◌^◌, ◌||◌, nat_lt, if◌then◌else◌, Option, Some, None, replicate}
use Rattle.locale_data.specs.{declared.{currency.CurrencyId.CurrencyId, format_rows.FormatRows.FormatRows}, Formats.format_rows}
use Rattle.locale_names.specs.declared.locale_units.UnitPatterns.{UnitPatterns}
use Rattle.number_format.specs.declared.format.{ids.FormatterIds.FormatterIds, outer.OuterTexts.OuterTexts}
use Rattle.fixed_decimal_c.specs.{declared.format_rows.{FdFormatRows.FdFormatRows, FdOuterRows.FdOuterRows}, Locales.{index_of, rows_of, rules_of}}

-- the rows of patterns
abbrev pub formats_in : FdFormatRows → FormatRows
formats_in c = record {
  percent = c.percent;
  standard = c.standard;
  accounting = c.accounting;
  signs = c.signs;
  compact = c.compact;
  unit = c.percent_unit;
  money = c.money;
}

-- the rows of a currency, if its index has 16 bits, and that of its pattern 8 bits; or none
abbrev pub currency_in : FdFormatRows → Option (Option CurrencyId)
currency_in c =
    if c.currency == 0 then Some None
    else if nat_lt (2 ^ 16) c.currency || nat_lt (2 ^ 8) c.currency_pattern
    then None
    else Some (Some (record {
      currency = c.currency - 1;
      wide = c.symbol;
      narrow = c.narrow_symbol;
      pattern = index_of c.currency_pattern;
    }))

-- the rows of a unit, and by the kind 2 of the one after `per`
abbrev pub units_in : FdOuterRows → UnitPatterns
units_in c = record {
  unit = c.texts;
  per = if c.kind == 2 then Some (record { unit = c.patterns; joiner = c.joiner }) else None;
}

-- what is written around the whole number
abbrev pub outer_in : FdOuterRows → Option OuterTexts
outer_in c =
    if c.kind == 0 then Some OuterTexts.None
    else if c.kind == 1 || c.kind == 2 then Some (OuterTexts.Units (units_in c))
    else if c.kind == 3
    then Some (OuterTexts.Names (record { code = c.code; names = c.texts; patterns = c.patterns }))
    else None

-- C has these rows
pub record AreRows (c : FdFormatRows) (ids : FormatterIds) : Type 0 where
  pub symbols : rows_of c.locale ≡ Some ids.symbols
  pub formats : format_rows ids.formats ≡ formats_in c
  pub rules : rules_of c.plural_rules ≡ Some ids.rules
  pub currency : currency_in c ≡ Some ids.currency
  pub outer : outer_in c.outer ≡ Some ids.outer
  pub reserved : c.reserved ≡ replicate 3 0
