use Rattle.std.proofs.{Common.{◌≡◌, ◌+◌, Ok, Err, subst, rules}, lemmas.Result.err_from_is_err_and}
use Rattle.decimal_digits.specs.AppendsPrefix.{AppendsPrefix}
use Rattle.cli.specs.{Filter.{Effects, lines_of_row}, Input.bytes_left, Lines.Filters}
use Rattle.cli.proofs.lemmas.lines.Filtering.{filters_before, filters_first}
use Rattle.cli.proofs.lines.named_filter.filter_rows.Goals as goal

pub returns-in_default-clause-filtered : goal.returns-in_default-clause-filtered
returns-in_default-clause-filtered g c = λ before read.
    let left = bytes_left g.R.Read.remaining c.args.input.now in
    let e : Effects _ = record {
      input = record { before = left; after = left };
      failure = c.args.input.now.1;
      output = record {
        before = g.W.Sink.contents c.filter_line.new.out;
        after = g.W.Sink.contents c.filter_line.new.out;
      };
      diagnostics = record { before = c.filter_line.new.diagnostics; after = c.filter_line.new.diagnostics };
    } in
    filters_first g.D.Diagnostics.reports c.args.filter.now 1 c.args.row.now before
    (g.W.Sink.contents c.args.out.now) c.args.diagnostics.now e c.filter_line.new.ended read
    c.in_default.ensures.filtered

pub returns-in_err-have_texts-clause-filtered : goal.returns-in_err-have_texts-clause-filtered
returns-in_err-have_texts-clause-filtered g c = λ before read.
    let residual = c.from_residual in
    let p = err_from_is_err_and residual.result residual.ensures.1 in
    let reports = g.D.Diagnostics.reports in
    let filter = c.args.filter.now in
    let error = c.in_err-have_texts.field-0.0 in
    let next : c.in-Some.number ≡ 1 + lines_of_row filter c.args.row.now = search rules in
    let e : Effects _ = record {
      input = record {
        before = bytes_left g.R.Read.remaining c.args.input.now;
        after = bytes_left g.R.Read.remaining c.filter_lines.new.input;
      };
      failure = c.filter_lines.new.input.1;
      output = record {
        before = g.W.Sink.contents c.filter_line.new.out;
        after = g.W.Sink.contents c.filter_lines.new.out;
      };
      diagnostics = record { before = c.filter_line.new.diagnostics; after = c.filter_lines.new.diagnostics };
    } in
    rw (p.1, p.2)
    (filters_before reports filter 1 c.args.row.now before (g.W.Sink.contents c.args.out.now) c.args.diagnostics.now e
    c.in-Ok.has_text (Err error) read c.in-Ok.ensures.filtered
    (subst (λ n. Filters AppendsPrefix reports filter n e (Err error)) next c.in_err-have_texts.ensures.filtered))

pub returns-clause-filtered : goal.returns-clause-filtered
returns-clause-filtered g c = λ before read.
    let reports = g.D.Diagnostics.reports in
    let filter = c.args.filter.now in
    let texts = Ok c.in_ok-have_texts.have_texts in
    let next : c.in-Some.number ≡ 1 + lines_of_row filter c.args.row.now = search rules in
    let e : Effects _ = record {
      input = record {
        before = bytes_left g.R.Read.remaining c.args.input.now;
        after = bytes_left g.R.Read.remaining c.filter_lines.new.input;
      };
      failure = c.filter_lines.new.input.1;
      output = record {
        before = g.W.Sink.contents c.filter_line.new.out;
        after = g.W.Sink.contents c.filter_lines.new.out;
      };
      diagnostics = record { before = c.filter_line.new.diagnostics; after = c.filter_lines.new.diagnostics };
    } in
    filters_before reports filter 1 c.args.row.now before (g.W.Sink.contents c.args.out.now) c.args.diagnostics.now e
    c.in-Ok.has_text texts read c.in-Ok.ensures.filtered
    (subst (λ n. Filters AppendsPrefix reports filter n e texts) next c.in_ok-have_texts.ensures.filtered)
