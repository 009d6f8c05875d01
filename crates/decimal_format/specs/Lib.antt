-- Trusted specification.
pub mod Symbols
pub mod Grouping
pub mod Formatted
pub mod Blocks
pub mod Ascii
pub mod Readable
pub mod Reading
pub mod Lenient
pub mod Alternatives
-- Private: used only in the contracts of private functions.
pub mod Parts
pub mod Scanning
