use Rattle.std.proofs.Common.{Ok}
use Rattle.conversions.proofs.lemmas.conversion.Conversions.{reading_fails, calls_fail}
use Rattle.conversions.proofs.conversion.converted.Goals as goal

pub returns-in-Err-clause-fails_with : goal.returns-in-Err-clause-fails_with
returns-in-Err-clause-fails_with c =
    reading_fails c.args.reader.now c.args.calls.now c.args.text.now c.in-Err.error c.in-Err.ensures.fails_with

pub returns-in-Err-apply_calls-clause-fails_with : goal.returns-in-Err-apply_calls-clause-fails_with
returns-in-Err-apply_calls-clause-fails_with c =
    rw c.from.ensures
    (calls_fail c.args.reader.now c.args.calls.now c.args.text.now c.in-Ok.value c.in-Ok.ensures.found
    c.in-Err-apply_calls.error c.in-Err-apply_calls.ensures.fails_with)

pub returns-clause-last : goal.returns-clause-last
returns-clause-last c = (Ok c.in-Ok.value, c.in-Ok.ensures.found, c.in_default.ensures.ok)
