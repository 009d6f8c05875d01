use Rattle.number_format.specs.TextParts.{Puts, first_pieces}
use Rattle.number_format.proofs.format.parts.put_digits.Given as goal

abbrev pub invariant-loop-below : goal.invariant-loop-below
invariant-loop-below g l =
    Puts (g.P.PartSink.pieces l.initial.sink) (g.P.PartSink.pieces l.sink)
    (first_pieces l.is_hidden l.whole l.digits.symbols l.digits.strategy l.digits.value l.below)
