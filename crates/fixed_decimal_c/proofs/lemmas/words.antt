pub mod CallWords
pub mod WordParts
pub mod JoinedWords
pub mod KindsOfWords
