-- The tables are sorted, by computation.
use Rattle.std.proofs.Common.{◌≡◌, true, refl}
use Rattle.locale_data.specs.SortedRows.{key, is_table}
use Rattle.locale_names.specs.{declared.tables.{currencies.TheConstants.CURRENCY_CODES, locales.TheConstants.LOCALES, units.TheConstants.UNITS}, Texts.short_bytes, Units.are_sorted}

pub locales_are_table : is_table (λ l. l.tag) LOCALES ≡ true
unfolding key
locales_are_table = refl

pub currencies_are_table : is_table (λ c. c.code) CURRENCY_CODES ≡ true
unfolding key
currencies_are_table = refl

pub units_are_sorted : are_sorted UNITS ≡ true
unfolding short_bytes
units_are_sorted = refl
