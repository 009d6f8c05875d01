pub mod PerTexts
pub mod SortedUnits
