use Rattle.std.specs.Option.{option_copied}
use Rattle.locale_data.specs.declared.tables.currencies.TheConstants.{CURRENCIES}
use Rattle.locale_data.proofs.lemmas.tables.{CurrencyRows.{currencies_are_table, has_rows}, EachRow.contains_at}
use Rattle.locale_data.proofs.currency.currency_id.Goals as goal

pub index_named-requires : goal.index_named-requires
index_named-requires c = rw c.currencies-rows.ensures currencies_are_table

pub own_symbols-own-requires : goal.own_symbols-own-requires
own_symbols-own-requires c =
    contains_at CURRENCIES c.in_ok-index.index c.indexed_row-currency.result.now
    (rw c.currencies-rows.ensures at c.indexed_row-currency.ensures)

pub override_of-requires : goal.override_of-requires
override_of-requires c =
    contains_at CURRENCIES c.in_ok-index.index c.indexed_row-currency.result.now
    (rw c.currencies-rows.ensures at c.indexed_row-currency.ensures)

pub returns-clause-rows : goal.returns-clause-rows
returns-clause-rows c =
    has_rows c.indexed_row-currency.result.now c.as_bytes-tag.result.now (option_copied c.own_symbols-own.result)
    (record {
      currency = c.in_ok-index.index;
      wide = c.symbol_index.result;
      narrow = c.symbol_index-2.result;
      pattern = c.override_of.result;
    }) (rw c.currencies-rows.ensures at c.indexed_row-currency.ensures) c.own_symbols-own.ensures
    c.symbol_index.ensures c.symbol_index-2.ensures c.override_of.ensures.listed
