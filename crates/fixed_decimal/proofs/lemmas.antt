pub mod signed_decimal
pub mod integer
pub mod runs
