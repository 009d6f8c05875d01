pub mod Parts
pub mod Lengths
pub mod Magnitudes
pub mod ShortTexts
pub mod FormattedLaws
