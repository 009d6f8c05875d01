use Rattle.fixed_decimal.proofs.Calling.{on_err}
use Rattle.cli.proofs.lemmas.lines.Quotes.{quoted_part, quoted_more}
use Rattle.cli.proofs.lines.fields.write_quoted.Goals as goal

pub returns-in_err-write_byte-clause-err : goal.returns-in_err-write_byte-clause-err
returns-in_err-write_byte-clause-err g c = on_err c.from_residual-in_err-write_byte.result _
    (quoted_part (g.W.Sink.contents c.args.sink.now) (g.W.Sink.contents c.loop-byte.sink)
    (g.W.Sink.contents c.write_byte.new.sink) c.args.text.now c.loop-byte.byte-index c.loop-byte-test.true
    c.loop-byte.invariant c.in_err-write_byte.ensures.err)

pub loop-byte-preserved : goal.loop-byte-preserved
loop-byte-preserved g c =
    quoted_more _ _ _ c.args.text.now c.loop-byte.byte-index c.loop-byte-test.true c.loop-byte.invariant
    c.in_ok-write_byte.ensures.ok
