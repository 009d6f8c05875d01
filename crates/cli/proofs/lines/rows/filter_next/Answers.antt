use Rattle.std.proofs.{Common.{◌≡◌, false, inl, take, refl, sym, subst, Some, Err, ◌∙◌}, lemmas.Result.err_from_is_err_and}
use Rattle.std.specs.{Prelude.IfSome, Io.Buffered.reader_remaining}
use Rattle.memchr.specs.Find.{IsFirstByte, is_byte}
use Rattle.cli.specs.{Filter.FiltersLine, Input.{bytes_left, IsRowRead}}
use Rattle.cli.proofs.lemmas.lines.FirstLine.{next_in_block}
use Rattle.cli.proofs.lines.rows.filter_next.Goals as goal

pub returns-clause-filtered : goal.returns-clause-filtered
returns-clause-filtered g c =
    let lines : c.args.filter.now.has_records ≡ false = c.in-Some.ensures.is_line refl in
    let block = c.block-2.result.now in
    let found =
    subst (λ block. IsFirstByte (is_byte 10) block (Some c.in-Some.end)) (c.block.ensures ∙ sym c.block-2.ensures)
    (c.in-Some.ensures.end lines) in
    let read =
    next_in_block g.R.Read.remaining c.args.input.now.0 (reader_remaining g.R.Read.remaining c.consume.new.self.0) block
    c.in-Some.end c.block-2.ensures found c.consume.ensures.bytes in
    (take c.in-Some.end block, rw lines read, rw lines refl, c.in_ok-filtered.ensures.filtered)

pub returns-in_err-filtered-clause-filtered : goal.returns-in_err-filtered-clause-filtered
returns-in_err-filtered-clause-filtered g c =
    let lines : c.args.filter.now.has_records ≡ false = c.in-Some.ensures.is_line refl in
    let block = c.block-2.result.now in
    let found =
    subst (λ block. IsFirstByte (is_byte 10) block (Some c.in-Some.end)) (c.block.ensures ∙ sym c.block-2.ensures)
    (c.in-Some.ensures.end lines) in
    let read =
    next_in_block g.R.Read.remaining c.args.input.now.0 (reader_remaining g.R.Read.remaining c.consume.new.self.0) block
    c.in-Some.end c.block-2.ensures found c.consume.ensures.bytes in
    let p =
    err_from_is_err_and c.from_residual.result c.from_residual.ensures.1 in
    rw p.1 (inl (take c.in-Some.end block, rw lines read, c.in_err-filtered.ensures.filtered))

pub returns-in_default-filter_line-clause-filtered : goal.returns-in_default-filter_line-clause-filtered
returns-in_default-filter_line-clause-filtered g c =
    let left = bytes_left g.R.Read.remaining in
    let contents = g.W.Sink.contents in
    let row = c.read_row.new.row.items in
    let read =
    subst (λ some. IfSome (left c.args.input.now)
    (λ bytes. IsRowRead c.args.filter.now.has_records some bytes row (left c.read_row.new.self)))
    c.in-Ok-true.field-0-test c.in-Ok-true.ensures.read in
    let filtered =
    subst (λ row. FiltersLine g.D.Diagnostics.reports c.args.filter.now c.args.number row
    (record { before = contents c.args.out.now; after = contents c.filter_line.new.out })
    (record { before = c.args.diagnostics.now; after = c.filter_line.new.diagnostics })
    (Err c.filter_line.new.ended)) c.as_slice-row.ensures.value c.in_default-filter_line.ensures.filtered in
    inl (row, read, filtered)
