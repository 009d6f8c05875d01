pub mod BcdNumber
pub mod Integers
pub mod WholeNumbers
