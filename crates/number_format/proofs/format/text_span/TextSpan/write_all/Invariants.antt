use Rattle.std.proofs.Common.{take}
use Rattle.std.specs.Io.KnownBytes.{Appends}
use Rattle.number_format.specs.TextSpans.{spans_text}
use Rattle.number_format.proofs.format.text_span.TextSpan.write_all.Given as goal

abbrev pub invariant-loop-span : goal.invariant-loop-span
invariant-loop-span g l =
    Appends (g.W.Sink.contents l.initial.sink) (g.W.Sink.contents l.sink) (spans_text (take l.span-index l.spans))
