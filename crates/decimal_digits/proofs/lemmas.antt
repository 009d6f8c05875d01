pub mod digits
pub mod rounding
pub mod ops
pub mod sink
