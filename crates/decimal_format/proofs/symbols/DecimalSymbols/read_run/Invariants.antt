use Rattle.std.proofs.Common.{◌-◌, ◌≤◌}
use Rattle.decimal_format.specs.Scanning.{ReadsRun}
use Rattle.decimal_format.proofs.symbols.DecimalSymbols.read_run.Given as goal

abbrev pub invariant-loop-count : goal.invariant-loop-count
invariant-loop-count g l = record {
  at_most : l.count ≤ l.most;
  read : ReadsRun l.self l.count (g.T.Input.bytes l.fn.text) (g.T.Input.bytes l.rest) l.number l.count;
}

abbrev pub decreases-loop-count : goal.decreases-loop-count
decreases-loop-count g l = l.most - l.count
