use Rattle.std.proofs.lemmas.Result.{err_from_is_err_and}
use Rattle.cli.proofs.lemmas.lines.HeaderNames.{placed_none, placed_more, placed_fails, placed_all}
use Rattle.cli.proofs.lines.headers.Header.named_fields.Goals as goal

pub loop-field-init : goal.loop-field-init
loop-field-init c =
    let header = c.args.self.now in
    rw c.new-fields.ensures.items
    (placed_none header.trims header.field header.bytes.now c.args.named.now)

pub loop-field-preserved : goal.loop-field-preserved
loop-field-preserved c =
    let header = c.args.self.now in
    placed_more header.trims header.field header.bytes.now c.args.named.now c.loop-field.field-index
    c.loop-field.fields.items c.loop-field.invariant c.field-item.result c.loop-field-test.true c.field-item.is
    c.push_named.new.fields.items
    c.in_ok-push_named.ensures.ok

pub returns-in_err-push_named-clause-err : goal.returns-in_err-push_named-clause-err
returns-in_err-push_named-clause-err c =
    let header = c.args.self.now in
    let p = err_from_is_err_and c.from_residual.result c.from_residual.ensures.1 in
    rw (p.1, p.2)
    (λ other. placed_fails header.trims header.field header.bytes.now c.args.named.now c.loop-field.field-index
    c.loop-field.fields.items c.loop-field.invariant c.field-item.result c.loop-field-test.true c.field-item.is
    c.in_err-push_named.field-0.0 (c.in_err-push_named.ensures.err other))

pub returns-clause-ok : goal.returns-clause-ok
returns-clause-ok c =
    let header = c.args.self.now in
    placed_all header.trims header.field header.bytes.now c.args.named.now c.loop-field.field-index
    c.loop-field.fields.items c.loop-field.invariant c.loop-field-test.false
