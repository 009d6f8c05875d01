pub mod Operands
pub mod DigitSlice
pub mod Rules
pub mod RulesGrammar
pub mod RulesReader
pub mod RulesParseResult
pub mod RulesBuilder
