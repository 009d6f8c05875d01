use Rattle.std.proofs.Common.{◌≡◌, map, take}
use Rattle.number_format.specs.NumberReading.{number_pattern}
use Rattle.number_format.proofs.format.formatter.NumberFormatter.number_patterns.Given as goal

abbrev pub invariant-loop-key : goal.invariant-loop-key
invariant-loop-key l = l.patterns.items ≡ map (number_pattern l.self) (take l.key-index l.keys)
