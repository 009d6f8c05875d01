use Rattle.std.proofs.Common.{take}
use Rattle.std.specs.Prelude.{All}
use Rattle.number_format.specs.{AffixedTexts.AreToldApart, NumberReading.number_pattern}
use Rattle.number_format.proofs.format.formatter.NumberFormatter.clash_of_keys.Given as goal

abbrev pub invariant-loop-key : goal.invariant-loop-key
invariant-loop-key l =
    All (λ k. All (λ m. AreToldApart l.self.style.symbols (number_pattern l.self k) (number_pattern l.self m)) l.keys)
    (take l.key-index l.keys)
