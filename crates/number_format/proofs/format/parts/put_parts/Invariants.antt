use Rattle.std.proofs.Common.{take}
use Rattle.number_format.specs.TextParts.{Puts, parts_pieces}
use Rattle.number_format.proofs.format.parts.put_parts.Given as goal

abbrev pub invariant-loop-part : goal.invariant-loop-part
invariant-loop-part g l =
    Puts (g.P.PartSink.pieces l.initial.sink) (g.P.PartSink.pieces l.sink) (parts_pieces (take l.part-index l.parts))
