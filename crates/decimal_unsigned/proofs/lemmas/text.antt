pub mod ShownDigits
pub mod Pieces
pub mod Lengths
pub mod Writing
pub mod ReadBack
