use Rattle.std.proofs.Common.{◌≡◌, ◌++◌, map, take}
use Rattle.number_format.specs.NumberReading.{form_of_pattern}
use Rattle.number_format.proofs.read.number_reader.push_patterns.Given as goal

abbrev pub invariant-loop-pattern : goal.invariant-loop-pattern
invariant-loop-pattern l =
    l.forms.items ≡ l.initial.forms.items ++ map form_of_pattern (take l.pattern-index l.patterns)
