use Rattle.std.proofs.Common.{◌≡◌, drop}
use Rattle.locale_data.specs.Compact.{pattern_with}
use Rattle.locale_data.proofs.compact.pattern_with.Given as goal

abbrev pub invariant-loop-pattern : goal.invariant-loop-pattern
invariant-loop-pattern l = pattern_with l.count l.patterns ≡ pattern_with l.count (drop l.pattern-index l.patterns)
