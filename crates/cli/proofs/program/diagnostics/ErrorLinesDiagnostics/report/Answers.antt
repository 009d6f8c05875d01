use Rattle.std.proofs.Common.{◌≡◌, true, false, refl, rules}
use Rattle.std.specs.Prelude.{is_some}
use Rattle.cli.proofs.lemmas.program.Reporting.{reports_none, reports_written}
use Rattle.cli.proofs.program.diagnostics.ErrorLinesDiagnostics.report.Goals as goal

pub returns-then-is_some : goal.returns-then-is_some
returns-then-is_some g c =
    let failed : is_some c.args.self.now.error ≡ true = search rules in
    (refl, reports_none _ _ c.error_line-line.result.bytes _ failed c.error_line-line.ensures)

pub returns : goal.returns
returns g c =
    let had_not : is_some c.args.self.now.error ≡ false = search rules in
    let line : c.as_bytes.result.now ≡ c.error_line-line.result.bytes = search rules in
    let written = c.write_whole.ensures in (
      refl,
      reports_written _ _ _ c.error_line-line.result.bytes c.write_whole.result _ _ had_not
          c.err-self.ensures.variant c.error_line-line.ensures (rw line at written.ok) (rw line at written.err),
    )
