use Rattle.std.specs.Fmt.{IsFlush, HasWrittenStyled}
use Rattle.decimal_format.proofs.lemmas.formatter.Magnitudes.{first_magnitudes}
use Rattle.decimal_format.proofs.formatter.display.FormattedAbsoluteDisplay.fmt.Given as goal

abbrev pub invariant-loop-below : goal.invariant-loop-below
invariant-loop-below g l =
    IsFlush l.initial.f
    → HasWrittenStyled g.W.Write.write_str_gives l.initial.f
    (first_magnitudes l.self.symbols l.self.strategy l.self.value l.below) l.f
