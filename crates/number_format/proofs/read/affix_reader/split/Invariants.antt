use Rattle.std.proofs.Common.{ℕ, List, take}
use Rattle.std.specs.Prelude.{All}
use Rattle.number_format.specs.AffixedTexts.{Allows, IsBetween}
use Rattle.number_format.specs.declared.read.pattern.NumberPattern.{NumberPattern}
use Rattle.number_format.proofs.read.affix_reader.split.Given as goal

abbrev pub invariant-loop-pattern : goal.invariant-loop-pattern
invariant-loop-pattern l =
    All (λ (p : NumberPattern). (middle : List ℕ) → Allows l.category p → ¬ IsBetween l.symbols l.text p middle)
    (take l.pattern-index l.patterns)
