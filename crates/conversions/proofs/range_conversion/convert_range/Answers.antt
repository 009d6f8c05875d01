use Rattle.std.proofs.Common.{◌≡◌}
use Rattle.conversions.specs.{Error.error_of_run, declared.error.OperationError.TheVariants.Output}
use Rattle.conversions.proofs.lemmas.conversion.Ranges.{start_fails, end_fails, end_is_no_output, last_is_no_output, text_fails, range_outcome}
use Rattle.conversions.proofs.range_conversion.convert_range.Goals as goal

pub returns-in-Err-clause-fails_with : goal.returns-in-Err-clause-fails_with
returns-in-Err-clause-fails_with g c =
    rw c.from.ensures
    (start_fails c.args.conversion.now c.args.start.now c.args.end.now _
    (rw c.as_slice-calls.ensures.value at c.in-Err.ensures.fails_with))

pub returns-in-Err-clause-failed : goal.returns-in-Err-clause-failed
returns-in-Err-clause-failed g c = λ failed.
    let same : error_of_run c.in-Err.error ≡ Output = cc in
    absurd (last_is_no_output _ _ _ _ c.in-Err.ensures.fails_with same)

pub returns-in-Err-clause-prefix : goal.returns-in-Err-clause-prefix
returns-in-Err-clause-prefix g c = λ failed.
    let same : error_of_run c.in-Err.error ≡ Output = cc in
    absurd (last_is_no_output _ _ _ _ c.in-Err.ensures.fails_with same)

pub returns-in-Err-converted-clause-fails_with : goal.returns-in-Err-converted-clause-fails_with
returns-in-Err-converted-clause-fails_with g c =
    end_fails c.args.conversion.now c.args.start.now c.args.end.now c.in-Ok.value
    (rw c.as_slice-calls.ensures.value at c.in-Ok.ensures.last) c.from-in-Err-converted.result c.error_of_end.result
    c.error_of_end.ensures
    (rw (c.as_slice-calls.ensures.value, ← c.from-in-Err-converted.ensures) at c.in-Err-converted.ensures.fails_with)

pub returns-in-Err-converted-clause-failed : goal.returns-in-Err-converted-clause-failed
returns-in-Err-converted-clause-failed g c = λ failed.
    absurd (end_is_no_output c.from-in-Err-converted.result c.error_of_end.result c.error_of_end.ensures cc)

pub returns-in-Err-converted-clause-prefix : goal.returns-in-Err-converted-clause-prefix
returns-in-Err-converted-clause-prefix g c = λ failed.
    absurd (end_is_no_output c.from-in-Err-converted.result c.error_of_end.result c.error_of_end.ensures cc)

pub returns-in-Ok-write-clause-written : goal.returns-in-Ok-write-clause-written
returns-in-Ok-write-clause-written g c =
    range_outcome c.args.conversion.now c.args.start.now c.args.end.now c.in-Ok.value
    (rw c.as_slice-calls.ensures.value at c.in-Ok.ensures.last) c.in-Ok-converted.value
    (rw c.as_slice-calls.ensures.value at c.in-Ok-converted.ensures.last) _ c.in-Ok-write.ensures.written

pub returns-in-Err-write-clause-fails_with : goal.returns-in-Err-write-clause-fails_with
returns-in-Err-write-clause-fails_with g c =
    text_fails c.args.conversion.now c.args.start.now c.args.end.now c.in-Ok.value
    (rw c.as_slice-calls.ensures.value at c.in-Ok.ensures.last) c.in-Ok-converted.value
    (rw c.as_slice-calls.ensures.value at c.in-Ok-converted.ensures.last) c.in-Err-write.error
    c.in-Err-write.ensures.fails_with

pub returns-in-Err-write-clause-prefix : goal.returns-in-Err-write-clause-prefix
returns-in-Err-write-clause-prefix g c = λ failed.
    let same : c.in-Err-write.error ≡ Output = cc in
    range_outcome c.args.conversion.now c.args.start.now c.args.end.now c.in-Ok.value
    (rw c.as_slice-calls.ensures.value at c.in-Ok.ensures.last) c.in-Ok-converted.value
    (rw c.as_slice-calls.ensures.value at c.in-Ok-converted.ensures.last) _ (c.in-Err-write.ensures.prefix same)
