use Rattle.std.proofs.Common.{◌≡◌, ◌*◌, ◌≤◌, length, take}
use Rattle.std.specs.Prelude.{flat_map}
use Rattle.number_format.specs.FormattedRanges.{segment_text}
use Rattle.number_format.proofs.range.formatted_range.FormattedRangeWriteable.writeable_length_hint.Given as goal

abbrev pub invariant-loop-segment : goal.invariant-loop-segment
invariant-loop-segment l =
    (l.total ≡ length (flat_map (segment_text l.self) (take l.segment-index l.segment-items)))
    × (l.total ≤ 77564151 * l.segment-index)
