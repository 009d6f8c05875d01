pub mod DecimalTexts
pub mod DecimalBytes
pub mod SignedRoundings
pub mod SignedNaming
pub mod Writing
