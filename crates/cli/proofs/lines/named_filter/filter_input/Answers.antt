use Rattle.std.proofs.Common.{◌≡◌, true, inl, refl, sym, subst, ap, ◌∙◌}
use Rattle.cli.specs.{declared.lines.filter.Filter.Filter, Input.{bytes_left, IsRowRead}, Targets.have_names}
use Rattle.std.specs.Prelude.{IfSome}
use Rattle.cli.proofs.lemmas.lines.NamedRuns.{has_header, ends_empty, ends_rejected}
use Rattle.cli.proofs.lines.named_filter.filter_input.Goals as goal

pub returns-in-Ok-false-clause-filtered : goal.returns-in-Ok-false-clause-filtered
returns-in-Ok-false-clause-filtered g c =
    let names : have_names c.args.named.now.target ≡ true = sym c.has_names.ensures ∙ c.if-not-has_names.false in
    ends_empty c.args.named.now g.D.Diagnostics.reports
    (record {
      input = record {
        before = bytes_left g.R.Read.remaining c.args.input.now;
        after = bytes_left g.R.Read.remaining c.read_row.new.self;
      };
      failure = c.read_row.new.self.1;
      output = record { before = g.W.Sink.contents c.args.out.now; after = g.W.Sink.contents c.args.out.now };
      diagnostics = record { before = c.args.diagnostics.now; after = c.args.diagnostics.now };
    })
    refl refl names c.read_row.new.row.items (rw c.in-Ok-false.field-0-test at c.in-Ok-false.ensures.read)

pub returns-in-Ok-clause-filtered : goal.returns-in-Ok-clause-filtered
returns-in-Ok-clause-filtered g c =
    let names : have_names c.args.named.now.target ≡ true = sym c.has_names.ensures ∙ c.if-not-has_names.false in
    let before = bytes_left g.R.Read.remaining c.args.input.now in
    let after = bytes_left g.R.Read.remaining c.read_row.new.self in
    let row = c.as_slice-row.result.now in
    let has_records = c.args.named.now.options.has_records in
    let read : IfSome before (λ bytes. IsRowRead has_records true bytes row after) =
    rw c.as_slice-row.ensures.value (rw c.in-Ok-true.field-0-test at c.in-Ok-true.ensures.read) in
    let is_filter = c.in-Ok.ensures.ok in
    let next = subst (λ records. IfSome before (λ bytes. IsRowRead records true bytes row after))
    (ap (λ (filter : Filter). filter.has_records) (sym is_filter.2)) read in
    inl (
      row,
      c.in-Ok.filter,
      has_header c.args.named.now names before after row read,
      is_filter,
      c.filter_rows.ensures.filtered before next,
    )

pub returns-clause-filtered : goal.returns-clause-filtered
returns-clause-filtered g c =
    let names : have_names c.args.named.now.target ≡ true = sym c.has_names.ensures ∙ c.if-not-has_names.false in
    ends_rejected c.args.named.now g.D.Diagnostics.reports
    (record {
      input = record {
        before = bytes_left g.R.Read.remaining c.args.input.now;
        after = bytes_left g.R.Read.remaining c.read_row.new.self;
      };
      failure = c.read_row.new.self.1;
      output = record { before = g.W.Sink.contents c.args.out.now; after = g.W.Sink.contents c.args.out.now };
      diagnostics = record { before = c.args.diagnostics.now; after = c.args.diagnostics.now };
    })
    refl refl names c.read_row.new.row.items c.in-Err-filter.error
    (rw c.in-Ok-true.field-0-test at c.in-Ok-true.ensures.read)
    (rw c.as_slice-row.ensures.value at c.in-Err-filter.ensures.err)
