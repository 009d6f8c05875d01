pub mod symbols
pub mod formatter
pub mod reader
