pub mod Roundings
pub mod Applied
pub mod DigitLaws
pub mod DefaultsResolve
