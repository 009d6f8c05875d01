pub mod CallWords
pub mod WordsFails
