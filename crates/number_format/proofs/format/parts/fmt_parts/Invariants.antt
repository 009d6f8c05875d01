use Rattle.std.proofs.Common.{take}
use Rattle.std.specs.Fmt.{IsFlush, HasWrittenStyled}
use Rattle.number_format.specs.TextParts.{parts_text}
use Rattle.number_format.proofs.format.parts.fmt_parts.Given as goal

abbrev pub invariant-loop-part : goal.invariant-loop-part
invariant-loop-part g l =
    IsFlush l.initial.f
    → HasWrittenStyled g.W.Write.write_str_gives l.initial.f (parts_text (take l.part-index l.parts)) l.f
