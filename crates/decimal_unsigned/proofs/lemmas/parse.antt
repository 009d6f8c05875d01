pub mod GrammarParts
pub mod ReadingGrammar
pub mod Plans
pub mod PlainTexts
pub mod FewDigits
pub mod BcdValues
pub mod Middle
