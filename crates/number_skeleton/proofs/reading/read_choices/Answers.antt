use Rattle.std.proofs.{Common.{◌∙◌, sym, arith}, lemmas.Result.err_from_is_err_and}
use Rattle.number_skeleton.proofs.{lemmas.reading.Pieces.{read_to_next, read_more, error_at_next, error_at_end, read_whole}, reading.read_choices.Goals.{then-length-gt0+in_ok-reading, else-length-gt0}}
use Rattle.number_skeleton.proofs.reading.read_choices.Goals as goal

pub returns-in_err-reading : goal.returns-in_err-reading
returns-in_err-reading c =
    let p = err_from_is_err_and c.from_residual.result c.from_residual.ensures.1 in
    rw (p.1, p.2) (error_at_next c.args.text.now c.loop-index.reading _ c.loop-index.start c.loop-index.index
    c.separator_length-length.result c.loop-index.invariant c.loop-index-test.true
    c.separator_length-length.ensures.value c.if-length-gt0.true (sym c.next.ensures ∙ c.in_err-reading.was))

pub loop-index-preserved : goal.loop-index-preserved
loop-index-preserved c = elim c.if-length-gt0.branch [
  | then-length-gt0+in_ok-reading w ↦ rw (w.reading-is, w.start-is) (read_to_next c.args.text.now c.loop-index.reading _
      c.loop-index.start c.loop-index.index c.separator_length-length.result c.loop-index.invariant
      c.loop-index-test.true c.separator_length-length.ensures.value w.if-length-gt0.true
      (sym w.next.ensures ∙ w.in_ok-reading.was))
  | else-length-gt0 w ↦ rw (w.reading-is, w.start-is) (read_more c.args.text.now c.loop-index.reading c.loop-index.start
      c.loop-index.index c.separator_length-length.result c.loop-index.invariant c.loop-index-test.true
      c.separator_length-length.ensures.value w.if-length-gt0.false)
]

pub returns-in_err-next : goal.returns-in_err-next
returns-in_err-next c =
    let p = err_from_is_err_and c.from_residual-in_err-next.result c.from_residual-in_err-next.ensures.1 in
    rw (p.1, p.2) (error_at_end c.args.text.now c.loop-index.reading _ c.loop-index.start c.loop-index.index
    c.loop-index.invariant (omega arith) (sym c.next-2.ensures ∙ c.in_err-next.was))

pub returns : goal.returns
returns c =
    read_whole c.args.text.now c.loop-index.reading _ c.loop-index.start c.loop-index.index c.loop-index.invariant
    (omega arith) (sym c.next-2.ensures ∙ c.in_ok-next.was)
