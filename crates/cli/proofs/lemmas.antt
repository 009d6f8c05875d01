pub mod lines
pub mod program
pub mod words
