pub mod Bill
pub mod Cash
pub mod Column
pub mod Measurement
pub mod Price
pub mod Report
