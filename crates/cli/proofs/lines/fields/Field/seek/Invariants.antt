use Rattle.std.proofs.Common.{◌≡◌, ◌≤◌, ◌-◌}
use Rattle.cli.specs.Fields.{IsAt}
use Rattle.cli.proofs.lines.fields.Field.seek.Given as goal

-- the cursor is at a field up to the one with the index
abbrev pub invariant-loop-found : goal.invariant-loop-found
invariant-loop-found l = record {
  is : IsAt l.self l.line l.found;
  is_open : l.found.is_open ≡ l.fn.cursor.is_open;
  before : l.found.index ≤ l.index;
}

abbrev pub decreases-loop-found : goal.decreases-loop-found
decreases-loop-found l = l.index - l.found.index
