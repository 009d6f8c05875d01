use Rattle.std.specs.Prelude.{true}
use Rattle.std.specs.Io.KnownBytes.{Appends}
use Rattle.number_format.specs.{declared.format.text_part.PartKind.TheVariants.Integer, TextParts.{first_pieces, pieces_text}}
use Rattle.number_format.proofs.format.fraction.write_fraction.Given as goal

abbrev pub invariant-loop-below : goal.invariant-loop-below
invariant-loop-below g l =
    Appends (g.W.Sink.contents l.initial.sink) (g.W.Sink.contents l.sink)
    (pieces_text (first_pieces true Integer l.digits.symbols l.digits.strategy l.digits.value l.below))
