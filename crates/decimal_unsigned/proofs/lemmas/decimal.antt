pub mod Rules
pub mod Values
pub mod FirstLast
pub mod Comparing
