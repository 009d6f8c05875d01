pub mod AsciiDigits
pub mod Apart
pub mod Rules
pub mod Separators
