pub mod Leading
pub mod Ends
pub mod NumberAt
pub mod SplitAtPosition
pub mod Remainders
pub mod Naming
pub mod RoundingLaws
pub mod Results
