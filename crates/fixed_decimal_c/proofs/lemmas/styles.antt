pub mod CodedStyles
pub mod NamedStyles
