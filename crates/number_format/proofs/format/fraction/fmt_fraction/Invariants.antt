use Rattle.std.specs.{Prelude.true, Fmt.{IsFlush, HasWrittenStyled}}
use Rattle.number_format.specs.{declared.format.text_part.PartKind.TheVariants.Integer, TextParts.{first_pieces, pieces_text}}
use Rattle.number_format.proofs.format.fraction.fmt_fraction.Given as goal

abbrev pub invariant-loop-below : goal.invariant-loop-below
invariant-loop-below g l =
    IsFlush l.initial.f
    → HasWrittenStyled g.W.Write.write_str_gives l.initial.f
    (pieces_text (first_pieces true Integer l.digits.symbols l.digits.strategy l.digits.value l.below)) l.f
