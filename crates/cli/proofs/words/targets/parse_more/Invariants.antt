use Rattle.std.proofs.Common.{length}
use Rattle.cli.specs.Targets.{AddFields}
use Rattle.cli.proofs.words.targets.parse_more.Given as goal

-- the words before those that are left name the fields
abbrev pub invariant-loop-group : goal.invariant-loop-group
invariant-loop-group l = AddFields l.words l.fn.fields.items l.left l.fields.items

abbrev pub decreases-loop-group : goal.decreases-loop-group
decreases-loop-group l = length l.left
