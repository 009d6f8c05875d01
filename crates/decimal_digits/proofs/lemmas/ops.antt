pub mod Offsets
pub mod Integers
