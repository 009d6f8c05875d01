use Rattle.std.proofs.Common.{subst, arith}
use Rattle.decimal_digits.specs.AppendsPrefix.{AppendsPrefix}
use Rattle.fixed_decimal.proofs.Calling.{on_err, second_of_three}
use Rattle.number_format.specs.TextParts.{part_text}
use Rattle.number_format.proofs.lemmas.format.FlatMaps.{flat_map-split}
use Rattle.number_format.proofs.format.parts.write_parts.Goals as goal

pub returns-in_err-put_bytes-clause-err : goal.returns-in_err-put_bytes-clause-err
returns-in_err-put_bytes-clause-err g c =
    on_err c.from_residual.result _
    (subst (AppendsPrefix (g.W.Sink.contents c.args.sink.now) (g.W.Sink.contents c.put_bytes.new.self))
    (flat_map-split part_text c.args.parts.now c.loop-part.part-index c.part-item.result (omega arith) c.part-item.is)
    (second_of_three _ _ _ _ _ _ c.loop-part.invariant
    (rw c.as_bytes.ensures.value at c.in_err-put_bytes.ensures.prefix)))
