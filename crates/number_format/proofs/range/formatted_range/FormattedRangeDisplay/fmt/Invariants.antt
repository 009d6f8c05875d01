use Rattle.std.proofs.Common.{take}
use Rattle.std.specs.{Prelude.flat_map, Fmt.{IsFlush, HasWrittenStyled}}
use Rattle.number_format.specs.FormattedRanges.{segment_text}
use Rattle.number_format.proofs.range.formatted_range.FormattedRangeDisplay.fmt.Given as goal

abbrev pub invariant-loop-segment : goal.invariant-loop-segment
invariant-loop-segment g l =
    IsFlush l.initial.f
    → HasWrittenStyled g.W.Write.write_str_gives l.initial.f
    (flat_map (segment_text l.self) (take l.segment-index l.segment-items)) l.f
