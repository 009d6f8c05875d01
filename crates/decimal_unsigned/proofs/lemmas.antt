pub mod decimal
pub mod parse
pub mod text
pub mod from_bcd
pub mod shift
pub mod laws
