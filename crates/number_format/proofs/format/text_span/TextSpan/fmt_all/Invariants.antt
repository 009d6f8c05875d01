use Rattle.std.proofs.Common.{take}
use Rattle.std.specs.Fmt.{IsFlush, HasWrittenStyled}
use Rattle.number_format.specs.TextSpans.{spans_text}
use Rattle.number_format.proofs.format.text_span.TextSpan.fmt_all.Given as goal

abbrev pub invariant-loop-span : goal.invariant-loop-span
invariant-loop-span g l =
    IsFlush l.initial.f
    → HasWrittenStyled g.W.Write.write_str_gives l.initial.f (spans_text (take l.span-index l.spans)) l.f
