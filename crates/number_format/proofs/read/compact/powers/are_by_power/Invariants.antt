use Rattle.std.proofs.Common.{take}
use Rattle.std.specs.Prelude.{All}
use Rattle.number_format.specs.CompactReading.{HasOneText}
use Rattle.number_format.proofs.read.compact.powers.are_by_power.Given as goal

abbrev pub invariant-loop-pattern : goal.invariant-loop-pattern
invariant-loop-pattern l = All (λ p. All (HasOneText p) l.patterns) (take l.pattern-index l.patterns)
