use Rattle.std.proofs.Common.{arith, subst}
use Rattle.fixed_decimal.proofs.Calling.{on_err}
use Rattle.number_format.specs.TextParts.{PutsPrefix, part_pieces}
use Rattle.number_format.proofs.lemmas.format.{FlatMaps.{flat_map-more, flat_map-split}, PieceTexts.{puts_nil, puts_trans, second_of_three}}
use Rattle.number_format.proofs.format.parts.put_parts.Goals as goal

pub loop-part-init : goal.loop-part-init
loop-part-init g c = puts_nil _

pub loop-part-preserved : goal.loop-part-preserved
loop-part-preserved g c =
    let more =
    flat_map-more part_pieces c.args.parts.now c.loop-part.part-index c.part-item.result (omega arith) c.part-item.is in
    grind (arith, puts_trans, more)

pub returns-in_err-put-clause-err : goal.returns-in_err-put-clause-err
returns-in_err-put-clause-err g c =
    on_err c.from_residual.result _
    (subst (PutsPrefix (g.P.PartSink.pieces c.args.sink.now) (g.P.PartSink.pieces c.put.new.sink))
    (flat_map-split part_pieces c.args.parts.now c.loop-part.part-index c.part-item.result (omega arith) c.part-item.is)
    (second_of_three _ _ _ _ _ _ c.loop-part.invariant c.in_err-put.ensures.err))
