pub mod SortedTables
