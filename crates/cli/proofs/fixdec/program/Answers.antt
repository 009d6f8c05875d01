use Rattle.std.proofs.Common.{Err, ap, rules, ◌∙◌}
use Rattle.cli.proofs.lemmas.program.Programs.{concludes_error}
use Rattle.cli.proofs.fixdec.program.Goals as goal

pub returns-clause-printed : goal.returns-clause-printed
returns-clause-printed g c = λ zero.
    let (is, same) = c.conclude.ensures.silent zero in
    let (all, printed) = rw is at c.print.ensures.printed in
    printed

pub returns-clause-has_not_failed : goal.returns-clause-has_not_failed
returns-clause-has_not_failed g c = λ zero.
    let (is, same) = c.conclude.ensures.silent zero in
    rw is at c.print.ensures.has_not_failed

pub returns-clause-reported : goal.returns-clause-reported
returns-clause-reported g c = λ some.
    let (error, is, status, reported) =
    concludes_error _ _ c.print.result c.conclude.result _ _ c.print.ensures.printed
    c.conclude.ensures.concludes some in (
      error,
      status,
      rw is at c.print.ensures.error,
      search (rules, reported),
      rw is at c.print.ensures.unchanged_on_error,
      λ e. (c.print.ensures.failed (is ∙ ap Err e), c.print.ensures.prefix (is ∙ ap Err e)),
    )
