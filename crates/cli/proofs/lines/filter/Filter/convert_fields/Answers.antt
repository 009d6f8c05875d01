use Rattle.std.proofs.lemmas.Result.{err_from_is_err_and}
use Rattle.std.specs.Io.KnownBytes.{Appends}
use Rattle.decimal_digits.specs.AppendsPrefix.{AppendsPrefix}
use Rattle.cli.specs.Error.{line_error}
use Rattle.cli.proofs.lemmas.lines.Editing.{edited_line, editing_fails}
use Rattle.cli.proofs.lines.filter.Filter.convert_fields.Goals as goal

pub returns-clause-printed : goal.returns-clause-printed
returns-clause-printed g c =
    edited_line c.args.self.now.trims c.args.number c.args.line.now c.args.base.now c.args.fields.now
    c.body_bounds-body.result c.body_bounds-body.ensures.value c.in_ok-text.text.0 c.in_ok-text.ensures.ok
    (Appends (g.W.Sink.contents c.args.sink.now) (g.W.Sink.contents c.write_replaced.new.sink))
    (rw c.as_bytes.ensures at c.in_ok-write_replaced.ensures.ok)

pub returns-in_err-text-clause-fails_with : goal.returns-in_err-text-clause-fails_with
returns-in_err-text-clause-fails_with g c =
    let p = err_from_is_err_and c.from_residual.result c.from_residual.ensures.1 in
    rw (p.1, p.2)
    (λ other. editing_fails c.args.self.now.trims c.args.number c.args.line.now c.args.base.now c.args.fields.now
    c.body_bounds-body.result c.body_bounds-body.ensures.value
    (line_error c.edited.new.failed c.in_err-text.field-0.0) c.in_err-text.ensures.err)

pub returns-in_err-write_replaced-clause-prefix : goal.returns-in_err-write_replaced-clause-prefix
returns-in_err-write_replaced-clause-prefix g c =
    let residual = c.from_residual-in_err-write_replaced in
    let p = err_from_is_err_and residual.result residual.ensures.1 in
    rw (p.1, p.2)
    (λ output. edited_line c.args.self.now.trims c.args.number c.args.line.now c.args.base.now c.args.fields.now
    c.body_bounds-body.result c.body_bounds-body.ensures.value c.in_ok-text.text.0 c.in_ok-text.ensures.ok
    (AppendsPrefix (g.W.Sink.contents c.args.sink.now) (g.W.Sink.contents c.write_replaced.new.sink))
    (rw c.as_bytes.ensures at c.in_err-write_replaced.ensures.err))
