use Rattle.std.proofs.Common.{rules, arith, sym, ◌∙◌}
use Rattle.cli.proofs.lemmas.lines.Separators.{delimiter_inside, bounds_inside, bounds_none}
use Rattle.cli.proofs.lines.fields.Field.seek.Goals as goal

pub returns-in_err-start-clause-value : goal.returns-in_err-start-clause-value
returns-in_err-start-clause-value c =
    let is = c.loop-found.invariant.is in
    c.from_residual.ensures
    ∙ sym (bounds_none c.args.self.now c.args.line.now c.loop-found.found.index c.loop-found.found.start is.0
    c.args.index (sym is.1 ∙ c.in_err-start.was) c.loop-found-test.true)

pub overflow_add-start : goal.overflow_add-start
overflow_add-start c =
    let is = c.loop-found.invariant.is in
    let inside =
    delimiter_inside c.args.self.now c.args.line.now c.loop-found.found.start c.in_ok-start.field-0
    (sym is.1 ∙ c.in_ok-start.was) in
    search (rules, arith, inside.2)

pub returns-clause-ordered : goal.returns-clause-ordered
returns-clause-ordered c =
    let is = c.loop-found.invariant.is in
    rw c.unwrap_or.ensures
    (bounds_inside c.args.self.now c.args.line.now c.loop-found.found.index c.loop-found.found.start is.0
    c.loop-found.found.delimiter is.1).0

pub returns-clause-inside : goal.returns-clause-inside
returns-clause-inside c =
    let is = c.loop-found.invariant.is in
    rw c.unwrap_or.ensures
    (bounds_inside c.args.self.now c.args.line.now c.loop-found.found.index c.loop-found.found.start is.0
    c.loop-found.found.delimiter is.1).1
