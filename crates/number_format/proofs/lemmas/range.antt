pub mod Segments
pub mod RangeEnds
pub mod RangeErrors
