use Rattle.std.proofs.Common.{◌≡◌, ◌≤◌, ◌∙◌, Ok, ap, false, not, length, sym, arith, rules}
use Rattle.cli.specs.Fields.{are_closed}
use Rattle.cli.proofs.lemmas.lines.FirstRecord.{first_line, next_line, closed_more, not_whole}
use Rattle.cli.proofs.lines.input.LineReader.append_record.Goals as goal

pub loop-is_closed-init : goal.loop-is_closed-init
loop-is_closed-init g c =
    let longer = c.append_line.ensures.longer (c.in_ok-append_line.was ∙ ap Ok c.if-not-branch.false) in
    record {
      part =
          first_line _ _ _ (rw c.requires at longer)
          (rw (c.if-not-branch.false, c.requires) at c.in_ok-append_line.ensures.read);
      closed = search rules;
      has_not_failed = search rules;
    }

pub loop-is_closed-preserved : goal.loop-is_closed-preserved
loop-is_closed-preserved g c =
    let longer =
    c.append_line-in-loop-is_closed.ensures.longer (c.in_ok-append_line-2.was ∙ ap Ok c.if-not-branch-2.false) in
    let unclosed : are_closed c.loop-is_closed.row.items ≡ false =
    sym c.loop-is_closed.invariant.closed ∙ c.loop-is_closed-test.true in
    let short : length c.loop-is_closed.row.items ≤ 1048576 = omega arith in
    let start : c.len-start.result ≡ length c.loop-is_closed.row.items = omega arith in
    record {
      part =
          next_line _ _ _ _ _ c.loop-is_closed.invariant.part (not_whole _ unclosed short) longer
          (rw c.if-not-branch-2.false at c.in_ok-append_line-2.ensures.read);
      closed = ap not c.are_closed-is_closed-in-loop-is_closed.ensures
          ∙ rw c.deref.ensures.value
          (closed_more _ _ _ unclosed c.append_line-in-loop-is_closed.ensures.appends start);
      has_not_failed = search rules;
    }
