use Rattle.std.proofs.{Common.arith, lemmas.Grind.common_steps}
use Rattle.number_format.proofs.lemmas.range.Segments.{text-more}
use Rattle.number_format.proofs.range.formatted_range.FormattedRangeWriteable.writeable_length_hint.Goals as goal

pub loop-segment-preserved : goal.loop-segment-preserved
loop-segment-preserved c =
    let more = text-more c.args.self.now c.loop-segment.segment-index (omega arith) in
    grind (arith, common_steps, more)
