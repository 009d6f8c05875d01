use Rattle.std.proofs.Common.{Err}
use Rattle.decimal_unsigned.specs.declared.error.ParseError.TheVariants.{Syntax}
use Rattle.number_format.specs.TypedWords.{IsMeaning, typing}
use Rattle.number_format.proofs.lemmas.read.CompactPatterns.{AllBelow}
use Rattle.number_format.proofs.read.compact.typed.TypedText.first_fit.Given as goal

abbrev pub invariant-loop-index : goal.invariant-loop-index
invariant-loop-index g l =
    AllBelow (λ i. IsMeaning (typing g.D.DigitStore.L l.self) i (Err Syntax)) l.index
