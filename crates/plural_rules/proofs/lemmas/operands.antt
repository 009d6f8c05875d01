pub mod DigitSlice
pub mod Shifted
pub mod ByText
