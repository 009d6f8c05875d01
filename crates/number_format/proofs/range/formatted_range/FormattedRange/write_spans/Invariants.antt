use Rattle.std.proofs.Common.{take}
use Rattle.std.specs.{Prelude.flat_map, Io.KnownBytes.Appends}
use Rattle.number_format.specs.FormattedRanges.{segment_text}
use Rattle.number_format.proofs.range.formatted_range.FormattedRange.write_spans.Given as goal

abbrev pub invariant-loop-segment : goal.invariant-loop-segment
invariant-loop-segment g l =
    Appends (g.W.Sink.contents l.initial.sink) (g.W.Sink.contents l.sink)
    (flat_map (segment_text l.self) (take l.segment-index l.segment-items))
