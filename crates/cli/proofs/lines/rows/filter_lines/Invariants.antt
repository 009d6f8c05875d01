use Rattle.std.proofs.Common.{◌-◌, ◌^◌}
use Rattle.cli.proofs.lemmas.lines.Filtering.{Filtered}
use Rattle.cli.specs.Input.{bytes_left}
use Rattle.cli.proofs.lines.rows.filter_lines.Given as goal

-- the rows before this line were read and filtered
abbrev pub invariant-rows : goal.invariant-rows
invariant-rows g l =
    Filtered g.D.Diagnostics.reports l.filter l.fn.first l.number l.have_texts (record {
      input = record {
        before = bytes_left g.R.Read.remaining l.fn.input;
        after = bytes_left g.R.Read.remaining l.input;
      };
      failure = l.input.1;
      output = record { before = g.W.Sink.contents l.fn.out; after = g.W.Sink.contents l.out };
      diagnostics = record { before = l.fn.diagnostics; after = l.diagnostics };
    })

abbrev pub decreases-rows : goal.decreases-rows
decreases-rows g l = 2 ^ 64 - l.number
