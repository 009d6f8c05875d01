use Rattle.decimal_digits.proofs.lemmas.{rounding.Results.on_err, sink.Sinks.prefix_kept}
use Rattle.decimal_digits.proofs.sink.Sink.put_bytes.Goals as goal

pub returns-in_err-put_byte-clause-prefix : goal.returns-in_err-put_byte-clause-prefix
returns-in_err-put_byte-clause-prefix g c =
    on_err c.from_residual.result _
    (prefix_kept _ _ _ c.loop-byte.byte-index c.args.bytes.now c.loop-byte.invariant.taken
    c.in_err-put_byte.ensures.keeps)
