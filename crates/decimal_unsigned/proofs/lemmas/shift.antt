pub mod Shifts
pub mod Cuts
pub mod Roundings
pub mod RoundingLaws
pub mod Concatenations
