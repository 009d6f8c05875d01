use Rattle.std.proofs.Common.{◌≤◌, ◌-◌, length}
use Rattle.cli.proofs.lemmas.lines.Separators.{Listed}
use Rattle.cli.proofs.lines.fields.Field.all_bounds.Given as goal

-- the fields before `start` are in the list
abbrev pub invariant-loop-end : goal.invariant-loop-end
invariant-loop-end l = record {
  listed : Listed l.self l.line l.start l.all.items;
  inside : l.start ≤ length l.line;
}

abbrev pub decreases-loop-end : goal.decreases-loop-end
decreases-loop-end l = length l.line - l.start
