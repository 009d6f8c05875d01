use Rattle.std.proofs.Common.{◌≡◌, Err, ap, ◌∙◌, rules}
use Rattle.fixed_decimal.specs.declared.runs.RunError.TheVariants.{Sink}
use Rattle.conversions.proofs.lemmas.conversion.Conversions.{output_is_sink, run_outcome, run_fails}
use Rattle.conversions.proofs.conversion.convert.Goals as goal

pub returns-in-Err-clause-prefix : goal.returns-in-Err-clause-prefix
returns-in-Err-clause-prefix g c = λ failed.
    let sink : c.in-Err.error ≡ Sink = output_is_sink c.in-Err.error (search rules) in
    let run : c.run.result ≡ Err Sink = c.in-Err.is ∙ ap Err sink in
    run_outcome c.args.conversion.now c.args.text.now (search rules) _
    (rw c.as_slice.ensures.value at c.run.ensures.prefix run)

pub returns-in-Ok-clause-written : goal.returns-in-Ok-clause-written
returns-in-Ok-clause-written g c =
    run_outcome c.args.conversion.now c.args.text.now (search rules) _
    (rw (c.as_slice.ensures.value, c.in-Ok.is) at c.run.ensures.written)

pub returns-in-Err-clause-fails_with : goal.returns-in-Err-clause-fails_with
returns-in-Err-clause-fails_with g c =
    rw c.from.ensures
    (run_fails c.args.conversion.now c.args.text.now (search rules) c.in-Err.error
    (rw (c.as_slice.ensures.value, c.in-Err.is) at c.run.ensures.fails_with))
