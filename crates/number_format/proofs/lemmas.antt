pub mod digits
pub mod notation
pub mod format
pub mod read
pub mod range
