use Rattle.std.proofs.Common.{◌++◌, length-append, arith}
use Rattle.fixed_decimal.proofs.Calling.{on_err}
use Rattle.decimal_format.proofs.lemmas.reader.{Bcd.below_append, Values.{appended_all, appended_more, next_word, memory_for_word}}
use Rattle.decimal_format.proofs.symbols.DecimalSymbols.append_digits.Goals as goal

pub append-requires : goal.append-requires
append-requires g c =
    let d = c.requires.digits in
    let so_far = c.loop-done.invariant d.0 d.1 d.2 d.3 in
    let read = c.read_separated-number.ensures so_far.others so_far.spelled in
    let word = next_word so_far read (omega (arith, c.loop-done-test.true, d.3.bcd.count)) in
    let limits = c.requires.in_limits in
    (word.0, read.at_most, limits.0, omega (arith, word.1, d.3.bcd.count, limits.1), (read.first, word.2))

pub overflow_add-done : goal.overflow_add-done
overflow_add-done g c =
    let d = c.requires.digits in
    let so_far = c.loop-done.invariant d.0 d.1 d.2 d.3 in
    let read = c.read_separated-number.ensures so_far.others so_far.spelled in
    let word = next_word so_far read (omega (arith, c.loop-done-test.true, d.3.bcd.count)) in
    record { fits = omega (arith, word.1, d.3.bcd.count, c.requires.in_limits.0, c.requires.in_limits.1) }

pub loop-done-smaller : goal.loop-done-smaller
loop-done-smaller g c =
    let d = c.requires.digits in
    let so_far = c.loop-done.invariant d.0 d.1 d.2 d.3 in
    let read = c.read_separated-number.ensures so_far.others so_far.spelled in
    let word = next_word so_far read (omega (arith, c.loop-done-test.true, d.3.bcd.count)) in
    omega (arith, word.0, c.loop-done-test.true)

pub loop-done-preserved : goal.loop-done-preserved
loop-done-preserved g c = λ ds es holds part.
    let so_far = c.loop-done.invariant ds es holds part in
    let read = c.read_separated-number.ensures so_far.others so_far.spelled in
    let word = (next_word so_far read (omega (arith, c.loop-done-test.true, part.bcd.count))).2 in
    appended_more so_far read _ (c.in_ok-append.ensures.ok (ds ++ so_far.first) read.first so_far.holds word)

pub returns-in_err-append-clause-memory : goal.returns-in_err-append-clause-memory
returns-in_err-append-clause-memory g c = on_err c.from_residual.result _ (λ ds es holds part.
    let so_far = c.loop-done.invariant ds es holds part in
    let read = c.read_separated-number.ensures so_far.others so_far.spelled in
    let word = (next_word so_far read (omega (arith, c.loop-done-test.true, part.bcd.count))).2 in
    memory_for_word so_far read g.D.DigitStore.L (below_append ds es holds.digits part.bcd.digits)
    c.requires.in_limits.0
    (omega (arith, length-append ds es, holds.count, part.bcd.count, c.requires.in_limits.1))
    (c.in_err-append.ensures.memory (ds ++ so_far.first) read.first so_far.holds word))

pub returns-clause-ok : goal.returns-clause-ok
returns-clause-ok g c = λ ds es holds part.
    appended_all (c.loop-done.invariant ds es holds part) (omega (arith, part.bcd.count, c.loop-done-test.false))
