pub mod Unknown
pub mod IndexedRows
pub mod UniqueRows
