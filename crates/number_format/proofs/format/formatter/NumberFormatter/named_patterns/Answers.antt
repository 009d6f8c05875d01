use Rattle.std.proofs.Common.{inl}
use Rattle.number_format.proofs.format.formatter.NumberFormatter.named_patterns.Goals as goal

pub returns-in-Some-clause-err : goal.returns-in-Some-clause-err
returns-in-Some-clause-err c = (
  c.requires.undo,
  (c.requires.readable, inl (rw (c.as_slice.ensures.value, c.in-Ok.ensures) at c.in-Some.ensures)),
)
