use Rattle.std.proofs.Common.{take}
use Rattle.std.specs.Prelude.{All}
use Rattle.number_format.specs.AffixedTexts.{AreToldApart}
use Rattle.number_format.proofs.read.apart.find_clash.Given as goal

abbrev pub invariant-loop-pattern : goal.invariant-loop-pattern
invariant-loop-pattern l = All (λ p. All (AreToldApart l.symbols p) l.patterns) (take l.pattern-index l.patterns)
