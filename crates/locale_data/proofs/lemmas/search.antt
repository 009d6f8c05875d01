pub mod Tags
pub mod SortedRows
pub mod PrefixKeys
pub mod LongestRow
pub mod Searches
