use Rattle.std.proofs.Common.{◌≡◌, ◌≤◌, ◌+◌, ◌^◌, true, rules}
use Rattle.cli.specs.Input.{bytes_left}
use Rattle.cli.proofs.lemmas.lines.Filtering.{filtered_start, filtered_more, filters_many, filters_error, consumed_next, silent_all}
use Rattle.cli.proofs.lines.rows.filter_lines.Goals as goal

pub rows-init : goal.rows-init
rows-init g c = filtered_start _ _ _ _ _ _ _

pub rows-preserved : goal.rows-preserved
rows-preserved g c =
    let next : c.in-Some-checked_add.after ≡ c.rows.number + c.in-Some.row.lines = search rules in
    rw next
    (filtered_more c.rows.invariant _ _ _ _ c.in-Some.row (rw c.in-Some.is at c.in-Ok.ensures.filtered))

pub returns-in_default-checked_add-clause-filtered : goal.returns-in_default-checked_add-clause-filtered
returns-in_default-checked_add-clause-filtered g c =
    let many : 2 ^ 64 ≤ c.rows.number + c.in-Some.row.lines = search rules in
    filters_many
    (filtered_more c.rows.invariant _ _ _ _ c.in-Some.row (rw c.in-Some.is at c.in-Ok.ensures.filtered)) many

pub returns-in_default-next-clause-silent : goal.returns-in_default-next-clause-silent
returns-in_default-next-clause-silent g c = λ is.
    let texts : c.rows.have_texts ≡ true = cc in
    silent_all c.rows.invariant (bytes_left g.R.Read.remaining c.filter_next.new.input) c.filter_next.new.input.1
    (g.W.Sink.contents c.filter_next.new.out) c.filter_next.new.diagnostics
    (rw c.in_default-next.is at c.in-Ok.ensures.filtered) texts

pub returns-in_default-clause-filtered : goal.returns-in_default-clause-filtered
returns-in_default-clause-filtered g c =
    filters_error c.rows.invariant _ _ _ _ c.filter_next.new.ended c.in_default.ensures.filtered

pub returns-in_default-clause-consumed : goal.returns-in_default-clause-consumed
returns-in_default-clause-consumed g c =
    consumed_next c.rows.invariant (bytes_left g.R.Read.remaining c.filter_next.new.input)
    c.filter_next.new.input.1 (g.W.Sink.contents c.filter_next.new.out) c.filter_next.new.diagnostics
    c.filter_next.new.ended c.in_default.ensures.filtered
