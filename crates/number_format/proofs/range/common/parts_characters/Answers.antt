use Rattle.std.proofs.{Common.{◌∙◌, ap, arith}, lemmas.List.Sums.sum_by-append}
use Rattle.std.specs.Prelude.{take}
use Rattle.number_format.specs.{RangeText.characters, TextParts.{part_text, parts_text}}
use Rattle.number_format.proofs.lemmas.format.FlatMaps.{flat_map-more}
use Rattle.number_format.proofs.range.common.parts_characters.Goals as goal

pub loop-part-preserved : goal.loop-part-preserved
loop-part-preserved c =
    let parts = c.args.parts.now in
    let part = c.part-item.result in
    let i = c.loop-part.part-index in
    let more = ap characters (flat_map-more part_text parts i part (omega arith) c.part-item.is)
    ∙ sum_by-append _ (parts_text (take i parts)) part.text.now in
    grind (arith, more)
