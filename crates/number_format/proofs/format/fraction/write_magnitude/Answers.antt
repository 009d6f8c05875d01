use Rattle.std.proofs.{Common.{true, pos, ◌-ℤ◌}, lemmas.Result.on_err_weaker}
use Rattle.fixed_decimal.proofs.Calling.{on_err, first_of_three, second_of_three, third_of_three}
use Rattle.decimal_format.specs.Formatted.{separator_before, separator_after}
use Rattle.number_format.specs.TextParts.{digit_if}
use Rattle.number_format.proofs.format.fraction.write_magnitude.Goals as goal

pub returns-in_err-put_bytes-clause-err : goal.returns-in_err-put_bytes-clause-err
returns-in_err-put_bytes-clause-err g c =
    let f = c.args.digits.now in
    let m = f.value.hi -ℤ pos c.args.below in
    on_err c.from_residual.result _
    (first_of_three (separator_before f.symbols m) (digit_if true f.symbols f.value.number m)
    (separator_after f.symbols f.strategy f.value.hi m) _ _
    (rw (c.as_bytes.ensures.value, c.separator_before.ensures.value) at c.in_err-put_bytes.ensures.prefix))

pub returns-in_err-write_digit-clause-err : goal.returns-in_err-write_digit-clause-err
returns-in_err-write_digit-clause-err g c =
    let f = c.args.digits.now in
    let m = f.value.hi -ℤ pos c.args.below in
    on_err c.from_residual-in_err-write_digit.result _
    (second_of_three (separator_before f.symbols m) (digit_if true f.symbols f.value.number m)
    (separator_after f.symbols f.strategy f.value.hi m) _ _ _
    (rw (c.as_bytes.ensures.value, c.separator_before.ensures.value) at c.in_ok-put_bytes.ensures.appends)
    c.in_err-write_digit.ensures.err)

pub returns-clause-err : goal.returns-clause-err
returns-clause-err g c =
    let f = c.args.digits.now in
    let m = f.value.hi -ℤ pos c.args.below in
    on_err_weaker c.put_bytes-2.result
    (third_of_three (separator_before f.symbols m) (digit_if true f.symbols f.value.number m)
    (separator_after f.symbols f.strategy f.value.hi m) _ _ _ _
    (rw (c.as_bytes.ensures.value, c.separator_before.ensures.value) at c.in_ok-put_bytes.ensures.appends)
    c.in_ok-write_digit.ensures.ok)
    (rw (c.as_bytes-2.ensures.value, c.separator_after.ensures.value) at c.put_bytes-2.ensures.prefix)
