pub mod Texts
pub mod Entries
pub mod LocaleRow
pub mod Units
pub mod LocaleUnits
pub mod LocaleCurrencies
