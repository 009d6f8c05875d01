use Rattle.std.proofs.Common.{take}
use Rattle.cli.specs.Categories.{PrintsAll}
use Rattle.cli.proofs.plural.categories.print_categories.Given as goal

-- the lines of the texts so far are printed
abbrev pub invariant-loop-index : goal.invariant-loop-index
invariant-loop-index g l =
    PrintsAll l.rules (take l.index l.texts) (g.W.Sink.contents l.initial.sink) (g.W.Sink.contents l.sink)
