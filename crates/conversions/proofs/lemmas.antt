pub mod conversion
pub mod calls
