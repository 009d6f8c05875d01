pub mod Conversions
pub mod RangeWords
pub mod Ranges
