pub mod operands
pub mod parse
