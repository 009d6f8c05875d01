use Rattle.std.proofs.Common.{append_assoc, arith}
use Rattle.number_format.specs.TextParts.{part_text}
use Rattle.number_format.proofs.lemmas.format.{FlatMaps.flat_map-more, PieceTexts.text-of}
use Rattle.number_format.proofs.format.parts.push_parts.Goals as goal

pub loop-part-preserved : goal.loop-part-preserved
loop-part-preserved c =
    let part = c.part-item.result in
    let more = flat_map-more part_text c.args.parts.now c.loop-part.part-index part (omega arith) c.part-item.is in
    let text = text-of part.kind part.text.now in
    grind (arith, append_assoc, more, text)
