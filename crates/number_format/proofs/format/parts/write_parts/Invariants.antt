use Rattle.std.proofs.Common.{take}
use Rattle.std.specs.Io.KnownBytes.{Appends}
use Rattle.number_format.specs.TextParts.{parts_text}
use Rattle.number_format.proofs.format.parts.write_parts.Given as goal

abbrev pub invariant-loop-part : goal.invariant-loop-part
invariant-loop-part g l =
    Appends (g.W.Sink.contents l.initial.sink) (g.W.Sink.contents l.sink) (parts_text (take l.part-index l.parts))
