use Rattle.std.proofs.Common.{◌≡◌, drop}
use Rattle.locale_names.specs.LocaleCurrencies.{pattern_of}
use Rattle.locale_names.proofs.locale_currencies.pattern_of.Given as goal

abbrev pub invariant-loop-pattern : goal.invariant-loop-pattern
invariant-loop-pattern l =
    pattern_of l.category l.patterns ≡ pattern_of l.category (drop l.pattern-index l.patterns)
