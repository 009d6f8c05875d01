use Rattle.std.proofs.{Common.arith, lemmas.Result.on_err_weaker}
use Rattle.fixed_decimal.proofs.Calling.{on_err, first_of_three, second_of_three, third_of_three}
use Rattle.fixed_decimal_c.proofs.status_text.LineTextWriteable.write_to.Goals as goal

pub returns-in_err-put_bytes-clause-err : goal.returns-in_err-put_bytes-clause-err
returns-in_err-put_bytes-clause-err g c = grind (arith, on_err, first_of_three)

pub returns-in_err-put_bytes-2-clause-err : goal.returns-in_err-put_bytes-2-clause-err
returns-in_err-put_bytes-2-clause-err g c =
    let line = c.args.self.now in
    on_err c.from_residual-in_err-put_bytes-2.result _
    (second_of_three line.before.now line.number.now line.after.now _ _ _
    (rw c.as_bytes.ensures.value at c.in_ok-put_bytes.ensures.appends)
    (rw c.as_bytes-2.ensures.value at c.in_err-put_bytes-2.ensures.prefix))

pub returns-clause-err : goal.returns-clause-err
returns-clause-err g c =
    on_err_weaker c.put_bytes-3.result
    (third_of_three _ _ _ _ _ _ _ (rw c.as_bytes.ensures.value at c.in_ok-put_bytes.ensures.appends)
    (rw c.as_bytes-2.ensures.value at c.in_ok-put_bytes-2.ensures.appends))
    (rw c.as_bytes-3.ensures.value at c.put_bytes-3.ensures.prefix)
