use Rattle.std.proofs.Common.{[], inl, refl}
use Rattle.cli.specs.Input.{bytes_left}
use Rattle.cli.proofs.lemmas.lines.NamedRuns.{no_header, ends_unplaced}
use Rattle.cli.proofs.lines.named_filter.filter_by_numbers.Goals as goal

pub returns-in-Ok-clause-filtered : goal.returns-in-Ok-clause-filtered
returns-in-Ok-clause-filtered g c =
    inl (
      [],
      c.in-Ok.filter,
      no_header c.args.named.now c.requires (bytes_left g.R.Read.remaining c.args.input.now),
      c.in-Ok.ensures.ok,
      c.filter_lines.ensures.filtered,
    )

pub returns-in-Err-clause-filtered : goal.returns-in-Err-clause-filtered
returns-in-Err-clause-filtered g c =
    ends_unplaced c.args.named.now g.D.Diagnostics.reports
    (record {
      input = record {
        before = bytes_left g.R.Read.remaining c.args.input.now;
        after = bytes_left g.R.Read.remaining c.args.input.now;
      };
      failure = c.args.input.now.1;
      output = record { before = g.W.Sink.contents c.args.out.now; after = g.W.Sink.contents c.args.out.now };
      diagnostics = record { before = c.args.diagnostics.now; after = c.args.diagnostics.now };
    })
    refl refl c.requires c.in-Err.error refl c.in-Err.ensures.err
