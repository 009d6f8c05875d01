pub mod reading
pub mod units
