use Rattle.std.proofs.Common.{◌-◌, ◌≤◌}
use Rattle.std.specs.Io.KnownBytes.{Appends}
use Rattle.decimal_format.specs.Parts.{part_text}
use Rattle.decimal_format.proofs.formatter.FormattedAbsolute.write_part.Given as goal

abbrev pub invariant-loop-written : goal.invariant-loop-written
invariant-loop-written g l = record {
  within : l.written ≤ l.count;
  appended : Appends (g.W.Sink.contents l.initial.sink) (g.W.Sink.contents l.sink) (part_text l.self l.below l.written);
}

abbrev pub decreases-loop-written : goal.decreases-loop-written
decreases-loop-written g l = l.count - l.written
