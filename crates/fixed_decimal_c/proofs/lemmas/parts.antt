pub mod PartLists
pub mod RangePartLists
