use Rattle.std.proofs.Common.{◌≢◌, Err}
use Rattle.decimal_unsigned.specs.declared.error.ParseError.TheVariants.{Syntax}
use Rattle.number_format.specs.TypedWords.{IsMeaning, power_of, typing}
use Rattle.number_format.proofs.lemmas.read.CompactPatterns.{AllBelow}
use Rattle.number_format.proofs.read.compact.typed.TypedText.has_other.Given as goal

abbrev pub invariant-loop-index : goal.invariant-loop-index
invariant-loop-index g l =
    AllBelow (λ i. power_of l.self.formatter.now i ≢ l.power
    → IsMeaning (typing g.D.DigitStore.L l.self) i (Err Syntax)) l.index
