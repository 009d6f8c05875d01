use Rattle.std.proofs.Common.{subst, arith}
use Rattle.decimal_digits.specs.AppendsPrefix.{AppendsPrefix}
use Rattle.fixed_decimal.proofs.Calling.{on_err, second_of_three}
use Rattle.decimal_format.proofs.lemmas.symbols.AsciiDigits.{digits_text-ascii, digits_text-parts}
use Rattle.decimal_format.proofs.formatter.text.write_digits.Goals as goal

pub returns-then-has_ascii_digits-clause-ok : goal.returns-then-has_ascii_digits-clause-ok
returns-then-has_ascii_digits-clause-ok g c = grind (arith, digits_text-ascii)

pub returns-then-has_ascii_digits-clause-err : goal.returns-then-has_ascii_digits-clause-err
returns-then-has_ascii_digits-clause-err g c =
    let ascii = c.has_ascii_digits.ensures c.if-has_ascii_digits.true in
    rw (digits_text-ascii c.args.symbols.now c.args.digits.now ascii c.requires) c.put_bytes.ensures.prefix

pub returns-in_err-put_bytes-clause-err : goal.returns-in_err-put_bytes-clause-err
returns-in_err-put_bytes-clause-err g c =
    let piece = rw (c.as_bytes.ensures.value, c.encode_utf8-text.ensures.value, c.digit.ensures.value)
    at c.in_err-put_bytes.ensures.prefix in
    on_err c.from_residual.result _
    (subst (AppendsPrefix (g.W.Sink.contents c.args.sink.now) (g.W.Sink.contents c.put_bytes-in-loop-digit.new.self))
    (digits_text-parts c.args.symbols.now c.args.digits.now c.loop-digit.digit-index (omega arith))
    (second_of_three _ _ _ _ _ _ c.loop-digit.invariant piece))
