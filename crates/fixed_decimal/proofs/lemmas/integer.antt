pub mod IntegerTexts
pub mod ScientificTexts
pub mod CompactTexts
pub mod Splitting
use Rattle.fixed_decimal.proofs.lemmas.integer.{CompactTexts.compact_reads, ScientificTexts.scientific_reads}

-- for `grind`: each text is read as its parts
pub ruleset reads = (compact_reads, scientific_reads)
