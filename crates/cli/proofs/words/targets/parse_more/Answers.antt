use Rattle.std.proofs.{Common.sym, lemmas.Result.err_from_is_err_and}
use Rattle.cli.specs.Targets.{field_words, no_field, next_field}
use Rattle.cli.proofs.words.targets.parse_more.Goals as goal

pub loop-group-init : goal.loop-group-init
loop-group-init c = no_field

pub loop-group-preserved : goal.loop-group-preserved
loop-group-preserved c =
    next_field (field_words c.in-Some.group) c.loop-group.invariant (sym c.in-Some.ensures.value)
    c.in_ok-push_named.ensures.ok

pub returns-in_err-push_named-clause-err : goal.returns-in_err-push_named-clause-err
returns-in_err-push_named-clause-err c =
    let p = err_from_is_err_and c.from_residual.result c.from_residual.ensures.1 in
    rw (p.1, p.2) (
      c.loop-group.left.now,
      c.loop-group.fields.items,
      c.loop-group.invariant,
      rw (← c.in-Some.ensures.value) c.in_err-push_named.ensures.err,
    )

pub returns-clause-ok : goal.returns-clause-ok
returns-clause-ok c = (c.loop-group.left.now, c.loop-group.invariant, sym c.in_default.ensures.value)
