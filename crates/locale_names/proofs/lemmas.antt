pub mod units
pub mod tables
