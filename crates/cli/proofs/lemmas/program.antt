pub mod Buffers
pub mod Printing
pub mod Programs
pub mod Reporting
pub mod Starting
