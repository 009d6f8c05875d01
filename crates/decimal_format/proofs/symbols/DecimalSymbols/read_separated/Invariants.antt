use Rattle.std.proofs.Common.{ℕ, List, ◌≤◌, length}
use Rattle.decimal_format.specs.Scanning.{IsSpelled, ReadsSpelled}
use Rattle.decimal_format.proofs.symbols.DecimalSymbols.read_separated.Given as goal

abbrev pub invariant-loop-count : goal.invariant-loop-count
invariant-loop-count g l = record {
  at_most : l.count ≤ l.most;
  read : (ds : List ℕ) → IsSpelled l.self (g.T.Input.bytes l.fn.text) ds
      → ReadsSpelled l.self l.count (g.T.Input.bytes l.rest) l.number l.count ds;
}

abbrev pub decreases-loop-count : goal.decreases-loop-count
decreases-loop-count g l = length (g.T.Input.bytes l.rest)
