pub mod UnitRows
pub mod JoinedUnits
