use Rattle.std.proofs.Common.{inl}
use Rattle.number_format.proofs.format.formatter.NumberFormatter.patterns_error.Goals as goal

pub returns-in-Some : goal.returns-in-Some
returns-in-Some c =
    (c.requires.undo, (c.requires.readable, inl (rw c.pattern_keys.ensures at c.in-Some.ensures)))
