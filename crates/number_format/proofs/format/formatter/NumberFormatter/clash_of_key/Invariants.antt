use Rattle.std.proofs.Common.{take}
use Rattle.std.specs.Prelude.{All}
use Rattle.number_format.specs.{AffixedTexts.AreToldApart, NumberReading.number_pattern}
use Rattle.number_format.proofs.format.formatter.NumberFormatter.clash_of_key.Given as goal

abbrev pub invariant-loop-other : goal.invariant-loop-other
invariant-loop-other l =
    All (λ k. AreToldApart l.self.style.symbols (number_pattern l.self l.key) (number_pattern l.self k))
    (take l.other-index l.keys)
