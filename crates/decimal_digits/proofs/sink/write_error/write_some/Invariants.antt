use Rattle.std.specs.Io.KnownBytes.{Keeps}
use Rattle.decimal_digits.proofs.sink.write_error.write_some.Given as goal

-- the interrupted calls took nothing
abbrev pub invariant-loop : goal.invariant-loop
invariant-loop g l = Keeps (g.W.Write.contents l.initial.writer) (g.W.Write.contents l.writer)
