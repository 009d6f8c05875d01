use Rattle.std.proofs.{Common.{◌≡◌, arith}, lemmas.Result.on_err_weaker}
use Rattle.fixed_decimal.proofs.Calling.{on_err, first_of_three, second_of_three, third_of_three}
use Rattle.decimal_format.proofs.formatter.FormattedAbsolute.write_run.Goals as goal

pub returns-in_err-put_bytes-clause-err : goal.returns-in_err-put_bytes-clause-err
returns-in_err-put_bytes-clause-err g c = grind (arith, on_err, first_of_three)

pub returns-in_err-write_digits-clause-err : goal.returns-in_err-write_digits-clause-err
returns-in_err-write_digits-clause-err g c =
    let symbols : c.self.inside.symbols.now ≡ c.args.self.now.symbols = cc in
    on_err c.from_residual-in_err-write_digits.result _
    (second_of_three _ _ _ _ _ _ (rw c.as_bytes.ensures.value at c.in_ok-put_bytes.ensures.appends)
    (rw symbols at c.in_err-write_digits.ensures.err))

pub returns-clause-err : goal.returns-clause-err
returns-clause-err g c =
    let symbols : c.self.inside.symbols.now ≡ c.args.self.now.symbols = cc in
    let first = rw c.as_bytes.ensures.value at c.in_ok-put_bytes.ensures.appends in
    let second = rw symbols at c.in_ok-write_digits.ensures.ok in
    on_err_weaker c.put_bytes-2.result (third_of_three _ _ _ _ _ _ _ first second)
    (rw c.as_bytes-2.ensures.value at c.put_bytes-2.ensures.prefix)
