use Rattle.std.proofs.Common.{◌≡◌, Err, refl, rules}
use Rattle.conversions.specs.Error.{status_of_operation}
use Rattle.cli.specs.Filter.{filtered_line}
use Rattle.cli.proofs.lemmas.lines.FieldLines.{rejected_row}
use Rattle.cli.proofs.lines.rejection.reject.Goals as goal

pub returns-in-Ok-clause-filtered : goal.returns-in-Ok-clause-filtered
returns-in-Ok-clause-filtered g c =
    let one : status_of_operation c.args.error.error ≡ 1 = search rules in (
      filtered_line c.args.filter.now c.args.number c.args.line.now (Err c.args.error),
      rejected_row c.args.filter.now c.args.number c.args.line.now c.args.error one c.requires.fails,
      rw c.replacement.ensures at c.in-Ok.ensures.ok,
      (c.report.new.self, c.report.ensures, refl),
      refl,
      search rules,
    )

pub returns-in-Err-clause-filtered : goal.returns-in-Err-clause-filtered
returns-in-Err-clause-filtered g c =
    let one : status_of_operation c.args.error.error ≡ 1 = search rules in (
      filtered_line c.args.filter.now c.args.number c.args.line.now (Err c.args.error),
      rejected_row c.args.filter.now c.args.number c.args.line.now c.args.error one c.requires.fails,
      rw c.replacement.ensures at c.in-Err.ensures.err,
      (c.report.new.self, c.report.ensures, refl),
      search rules,
    )
