use Rattle.std.proofs.{Common.{◌≡◌, take, drop, rules}, lemmas.Result.on_err_weaker}
use Rattle.fixed_decimal.proofs.Calling.{on_err, first_of_three, second_of_three, third_of_three}
use Rattle.cli.proofs.lemmas.lines.{FieldLines.all_replaced, Separators.all_after}
use Rattle.cli.proofs.lines.field_conversion.write_replaced.Goals as goal

pub returns-in_err-put_bytes-clause-err : goal.returns-in_err-put_bytes-clause-err
returns-in_err-put_bytes-clause-err g c =
    let bytes = c.args.bytes.now in
    on_err c.from_residual.result _
    (first_of_three (take c.args.bounds.0 bytes) c.args.others.now (drop c.args.bounds.1 bytes) _ _
    c.in_err-put_bytes.ensures.prefix)

pub returns-in_err-put_bytes-2-clause-err : goal.returns-in_err-put_bytes-2-clause-err
returns-in_err-put_bytes-2-clause-err g c =
    let bytes = c.args.bytes.now in
    on_err c.from_residual-in_err-put_bytes-2.result _
    (second_of_three (take c.args.bounds.0 bytes) c.args.others.now (drop c.args.bounds.1 bytes) _ _ _
    c.in_ok-put_bytes.ensures.appends c.in_err-put_bytes-2.ensures.prefix)

pub returns-clause-err : goal.returns-clause-err
returns-clause-err g c =
    let bytes = c.args.bytes.now in
    let first = c.in_ok-put_bytes.ensures.appends in
    let second = c.in_ok-put_bytes-2.ensures.appends in
    on_err_weaker c.put_bytes-4.result (λ third. third_of_three (take c.args.bounds.0 bytes) c.args.others.now
    (drop c.args.bounds.1 bytes) _ _ _ _ first second (rw (all_after c.args.bounds.1 bytes) at third))
    c.put_bytes-4.ensures.prefix

pub returns-then-bounds-bytes-clause-err : goal.returns-then-bounds-bytes-clause-err
returns-then-bounds-bytes-clause-err g c =
    let start : c.args.bounds.0 ≡ 0 = search rules in
    rw (start, c.if-bounds-bytes.true, all_replaced c.args.bytes.now c.args.others.now)
    c.put_bytes.ensures.prefix
