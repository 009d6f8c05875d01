use Rattle.std.proofs.Common.{take}
use Rattle.number_format.specs.{TextParts.Puts, TextSpans.spans_pieces}
use Rattle.number_format.proofs.format.text_span.TextSpan.put_all.Given as goal

abbrev pub invariant-loop-span : goal.invariant-loop-span
invariant-loop-span g l =
    Puts (g.P.PartSink.pieces l.initial.sink) (g.P.PartSink.pieces l.sink) (spans_pieces (take l.span-index l.spans))
