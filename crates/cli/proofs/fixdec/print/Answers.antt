use Rattle.std.proofs.{Common.{◌≡◌, Err, refl, rules}, lemmas.Result.err_from_is_err_and}
use Rattle.cli.specs.declared.program.error.ProgramError.TheVariants.{Output}
use Rattle.cli.proofs.lemmas.program.Programs.{has_text, line_begun, prints_kept, run_map}
use Rattle.cli.proofs.fixdec.print.Goals as goal

pub returns-in_err-print_run-clause-prefix : goal.returns-in_err-print_run-clause-prefix
returns-in_err-print_run-clause-prefix g c = λ is.
    let failed : c.print_run.result ≡ Err Output = search (rules, is) in c.print_run.ensures.prefix failed

pub returns-in_err-flush-clause-error : goal.returns-in_err-flush-clause-error
returns-in_err-flush-clause-error g c =
    let residual = c.from_residual-in_err-flush in
    let p = err_from_is_err_and residual.result residual.ensures.1 in
    rw (p.1, p.2) (run_map _ _ (λ run h. has_text run _ h) c.in_ok-print_run.ensures.printed)

pub returns-in_err-flush-clause-prefix : goal.returns-in_err-flush-clause-prefix
returns-in_err-flush-clause-prefix g c = λ _.
    run_map _ _ (λ run h. line_begun run _ _ _ h c.flush.ensures.keeps) c.in_ok-print_run.ensures.printed

pub returns-clause-printed : goal.returns-clause-printed
returns-clause-printed g c =
    (refl, prints_kept c.args.words.now _ _ _ c.in_ok-print_run.ensures.printed c.flush.ensures.keeps)
