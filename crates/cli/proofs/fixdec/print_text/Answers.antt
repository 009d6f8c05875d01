use Rattle.std.proofs.{Common.{◌≡◌, Err, refl, ap, ◌∙◌}, lemmas.Result.err_from_is_err_and}
use Rattle.cli.specs.declared.program.error.ProgramError.TheVariants as program
use Rattle.cli.specs.Error.{conversion_error}
use Rattle.cli.proofs.lemmas.program.Programs.{text_fails, conversion_output}
use Rattle.cli.proofs.fixdec.print_text.Goals as goal

pub returns-in-Err-clause-fails_with : goal.returns-in-Err-clause-fails_with
returns-in-Err-clause-fails_with g c = rw c.setup.ensures (refl, c.in-Err.ensures.err)

pub returns-in_err-print_line-clause-fails_with : goal.returns-in_err-print_line-clause-fails_with
returns-in_err-print_line-clause-fails_with g c =
    let residual = c.from_residual in
    let p = err_from_is_err_and residual.result residual.ensures.1 in
    rw (p.1, p.2)
    (text_fails c.args.text.now c.args.words.now c.in_err-print_line.field-0.0
    (c.in-Ok.conversion, c.in-Ok.ensures.some, c.in_err-print_line.ensures.fails_with))

pub returns-in_err-print_line-clause-unchanged_on_error : goal.returns-in_err-print_line-clause-unchanged_on_error
returns-in_err-print_line-clause-unchanged_on_error g c =
    let residual = c.from_residual in
    let p = err_from_is_err_and residual.result residual.ensures.1 in
    rw (p.1, p.2)
    (λ other. c.in_err-print_line.ensures.unchanged_on_error (λ is. other (ap conversion_error is)))

pub returns-in_err-print_line-clause-failed : goal.returns-in_err-print_line-clause-failed
returns-in_err-print_line-clause-failed g c = λ is.
    let residual = c.from_residual in
    let p = err_from_is_err_and residual.result residual.ensures.1 in
    let same : conversion_error c.in_err-print_line.field-0.0 ≡ program.Output = cc in
    c.print_line.ensures.failed (c.in_err-print_line.was ∙ ap Err (conversion_output _ same))

pub returns-in_err-print_line-clause-prefix : goal.returns-in_err-print_line-clause-prefix
returns-in_err-print_line-clause-prefix g c = λ is.
    let residual = c.from_residual in
    let p = err_from_is_err_and residual.result residual.ensures.1 in
    let same : conversion_error c.in_err-print_line.field-0.0 ≡ program.Output = cc in (
      c.in-Ok.conversion,
      c.in-Ok.ensures.some,
      c.print_line.ensures.prefix (c.in_err-print_line.was ∙ ap Err (conversion_output _ same)),
    )

pub returns-clause-printed : goal.returns-clause-printed
returns-clause-printed g c = (c.in-Ok.conversion, c.in-Ok.ensures.some, c.in_ok-print_line.ensures.printed)
