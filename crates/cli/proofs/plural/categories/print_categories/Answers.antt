use Rattle.std.proofs.Common.{◌∙◌, Err, ap}
use Rattle.cli.specs.Categories.{StopsAt}
use Rattle.cli.proofs.lemmas.program.Printing.{prints_more, stops_here}
use Rattle.conversions.proofs.lemmas.calls.Results.{err_with}
use Rattle.cli.proofs.plural.categories.print_categories.Goals as goal

pub returns-in_err-print_category-clause-stopped : goal.returns-in_err-print_category-clause-stopped
returns-in_err-print_category-clause-stopped g c =
    let contents = g.W.Sink.contents in
    let failed = c.in_err-print_category in
    err_with (StopsAt c.args.rules.now c.args.texts.now (contents c.args.sink.now) (contents c.print_category.new.sink))
    c.from_residual.result failed.field-0.0 c.from_residual.ensures.1
    (stops_here c.args.rules.now c.args.texts.now c.loop-index.index c.index-texts-index.result _
    (contents c.loop-index.sink) (contents c.print_category.new.sink) c.loop-index-test.true c.index-texts-index.is
    c.loop-index.invariant failed.field-0.0 (rw c.as_str.ensures.value at failed.ensures.error)
    (λ other. ap contents (failed.ensures.unchanged_on_error other))
    (λ output. rw c.as_str.ensures.value at (c.print_category.ensures.prefix (failed.was ∙ ap Err output))))

pub loop-index-preserved : goal.loop-index-preserved
loop-index-preserved g c =
    let contents = g.W.Sink.contents in
    prints_more c.args.rules.now c.args.texts.now c.loop-index.index c.index-texts-index.result _
    (contents c.loop-index.sink) (contents c.print_category.new.sink) c.loop-index-test.true
    c.index-texts-index.is c.loop-index.invariant
    (rw c.as_str.ensures.value at c.in_ok-print_category.ensures.printed)
