use Rattle.std.proofs.{Common.arith, Output.has_written_styled_append}
use Rattle.number_format.specs.TextSpans.{span_text}
use Rattle.number_format.proofs.lemmas.format.FlatMaps.{flat_map-more}
use Rattle.number_format.proofs.format.text_span.TextSpan.fmt_all.Goals as goal

pub loop-span-preserved : goal.loop-span-preserved
loop-span-preserved g c =
    let more =
    flat_map-more span_text c.args.spans.now c.loop-span.span-index c.span-item.result (omega arith) c.span-item.is in
    grind (arith, has_written_styled_append, more)
