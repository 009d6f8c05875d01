use Rattle.std.proofs.{Common.arith, Output.has_written_styled_append}
use Rattle.number_format.proofs.lemmas.range.Segments.{text-more}
use Rattle.number_format.proofs.range.formatted_range.FormattedRangeDisplay.fmt.Goals as goal

pub loop-segment-preserved : goal.loop-segment-preserved
loop-segment-preserved g c =
    let more = text-more c.args.self.now c.loop-segment.segment-index (omega arith) in
    grind (arith, has_written_styled_append, more)
