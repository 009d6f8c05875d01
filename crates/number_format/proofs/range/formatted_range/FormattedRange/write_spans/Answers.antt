use Rattle.std.proofs.{Common.{arith, subst, sym}, KnownBytes.Appends-trans}
use Rattle.std.specs.Io.KnownBytes.{Appends}
use Rattle.decimal_digits.specs.AppendsPrefix.{AppendsPrefix}
use Rattle.fixed_decimal.proofs.Calling.{on_err, second_of_three}
use Rattle.number_format.proofs.lemmas.range.Segments.{text-more, text-split}
use Rattle.number_format.proofs.range.formatted_range.FormattedRange.write_spans.Goals as goal

pub loop-segment-preserved : goal.loop-segment-preserved
loop-segment-preserved g c =
    let a = g.W.Sink.contents c.args.sink.now in
    let b = g.W.Sink.contents c.loop-segment.sink in
    let z = g.W.Sink.contents c.write_all.new.sink in
    subst (Appends a z) (sym (text-more c.args.self.now c.loop-segment.segment-index (omega arith)))
    (Appends-trans a b z _ _ c.loop-segment.invariant
    (subst (Appends b z) c.spans.ensures.text c.in_ok-write_all.ensures.ok))

pub returns-in_err-write_all-clause-err : goal.returns-in_err-write_all-clause-err
returns-in_err-write_all-clause-err g c =
    let a = g.W.Sink.contents c.args.sink.now in
    let b = g.W.Sink.contents c.loop-segment.sink in
    let z = g.W.Sink.contents c.write_all.new.sink in
    on_err c.from_residual.result _
    (subst (AppendsPrefix a z) (text-split c.args.self.now c.loop-segment.segment-index (omega arith))
    (second_of_three _ _ _ _ _ _ c.loop-segment.invariant
    (subst (AppendsPrefix b z) c.spans.ensures.text c.in_err-write_all.ensures.err)))
