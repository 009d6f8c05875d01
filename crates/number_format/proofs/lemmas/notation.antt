pub mod Scales
pub mod Exponents
