use Rattle.std.proofs.Common.{subst, arith}
use Rattle.decimal_digits.specs.AppendsPrefix.{AppendsPrefix}
use Rattle.fixed_decimal.proofs.Calling.{on_err, second_of_three}
use Rattle.number_format.specs.TextSpans.{span_text}
use Rattle.number_format.proofs.lemmas.format.FlatMaps.{flat_map-split}
use Rattle.number_format.proofs.format.text_span.TextSpan.write_all.Goals as goal

pub returns-in_err-write-clause-err : goal.returns-in_err-write-clause-err
returns-in_err-write-clause-err g c =
    on_err c.from_residual.result _
    (subst (AppendsPrefix (g.W.Sink.contents c.args.sink.now) (g.W.Sink.contents c.write.new.sink))
    (flat_map-split span_text c.args.spans.now c.loop-span.span-index c.span-item.result (omega arith) c.span-item.is)
    (second_of_three _ _ _ _ _ _ c.loop-span.invariant c.in_err-write.ensures.err))
