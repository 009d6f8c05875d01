pub mod RulesRun
pub mod ParserComplete
pub mod ParserSound
pub mod ViablePrefixes
pub mod ParserInvariants
