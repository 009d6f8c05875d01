use Rattle.std.proofs.Common.{arith, subst}
use Rattle.fixed_decimal.proofs.Calling.{on_err}
use Rattle.number_format.specs.{TextParts.PutsPrefix, TextSpans.span_pieces}
use Rattle.number_format.proofs.lemmas.format.{FlatMaps.{flat_map-more, flat_map-split}, PieceTexts.{puts_nil, puts_trans, second_of_three}}
use Rattle.number_format.proofs.format.text_span.TextSpan.put_all.Goals as goal

pub loop-span-init : goal.loop-span-init
loop-span-init g c = puts_nil _

pub loop-span-preserved : goal.loop-span-preserved
loop-span-preserved g c =
    let more =
    flat_map-more span_pieces c.args.spans.now c.loop-span.span-index c.span-item.result (omega arith) c.span-item.is in
    grind (arith, puts_trans, more)

pub returns-in_err-put-clause-err : goal.returns-in_err-put-clause-err
returns-in_err-put-clause-err g c =
    on_err c.from_residual.result _
    (subst (PutsPrefix (g.P.PartSink.pieces c.args.sink.now) (g.P.PartSink.pieces c.put.new.sink))
    (flat_map-split span_pieces c.args.spans.now c.loop-span.span-index c.span-item.result (omega arith)
    c.span-item.is)
    (second_of_three _ _ _ _ _ _ c.loop-span.invariant c.in_err-put.ensures.err))
