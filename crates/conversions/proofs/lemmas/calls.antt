pub mod Concatenations
pub mod Lookups
pub mod Numerals
pub mod Results
pub mod ShownWords
pub mod UnknownTypes
