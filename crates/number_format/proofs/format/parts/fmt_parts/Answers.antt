use Rattle.std.proofs.{Common.arith, Output.has_written_styled_append}
use Rattle.number_format.specs.TextParts.{part_text}
use Rattle.number_format.proofs.lemmas.format.FlatMaps.{flat_map-more}
use Rattle.number_format.proofs.format.parts.fmt_parts.Goals as goal

pub loop-part-preserved : goal.loop-part-preserved
loop-part-preserved g c =
    let more =
    flat_map-more part_text c.args.parts.now c.loop-part.part-index c.part-item.result (omega arith) c.part-item.is in
    grind (arith, has_written_styled_append, more)
