pub mod Increments
pub mod Precisions
pub mod Unique
