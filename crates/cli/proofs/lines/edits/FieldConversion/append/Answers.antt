use Rattle.std.proofs.{Common.{◌≡◌, Ok, sym, ◌∙◌}, lemmas.Result.err_from_is_err_and}
use Rattle.cli.specs.Fields.{located}
use Rattle.cli.proofs.lemmas.lines.Editing.{edit_fails}
use Rattle.cli.proofs.lines.edits.FieldConversion.append.Goals as goal

pub returns-in_err-append_converted-clause-err : goal.returns-in_err-append_converted-clause-err
returns-in_err-append_converted-clause-err c =
    let residual = c.from_residual-in_err-append_converted in
    let p = err_from_is_err_and residual.result residual.ensures.1 in
    let found : located c.args.base.now c.args.line.now c.args.self.now.index ≡ Ok c.in_ok-bounds.bounds =
    sym c.locate.ensures.value ∙ c.in_ok-bounds.was in
    rw (p.1, p.2)
    (edit_fails c.args.trims c.args.base.now c.args.line.now c.args.self.now c.in_ok-bounds.bounds
    c.in_err-append_converted.field-0.0 found c.in_err-append_converted.ensures.err)
