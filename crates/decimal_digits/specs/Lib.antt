-- Trusted specification.
pub mod Ascii
pub mod Number
pub mod Digits
pub mod AppendsPrefix
pub mod Buffered
pub mod AscendingDigits
pub mod Rounding
pub mod Orders
pub mod ErrorText
pub mod Counted
pub mod RoundedDigits
pub mod Nibbles
-- Private: used only in the contracts of private functions.
pub mod Remainders
pub mod Packing
