use Rattle.std.proofs.Common.{◌-◌, ◌≤◌, take}
use Rattle.std.specs.Io.KnownBytes.{Appends}
use Rattle.decimal_digits.proofs.lemmas.sink.Sinks.{IsFresh}
use Rattle.decimal_unsigned.specs.Text.{text}
use Rattle.decimal_unsigned.proofs.decimal.text.UnsignedOverWriteable.write_to.Given as goal

abbrev pub invariant-loop-written : goal.invariant-loop-written
invariant-loop-written g l = record {
  within : l.written ≤ l.length;
  appended : Appends (g.W.Sink.contents l.initial.sink) (g.W.Sink.contents l.sink) (take l.written (text l.self));
  fresh : IsFresh g.W.Sink.has_failed l.written l.initial.sink l.sink;
}

abbrev pub decreases-loop-written : goal.decreases-loop-written
decreases-loop-written g l = l.length - l.written
