use Rattle.std.proofs.Common.{List}
use Rattle.fixed_decimal.specs.declared.runs.Call.{Call}
use Rattle.cli.proofs.lemmas.words.CallWords.{Begin}
use Rattle.cli.proofs.words.calls.first_error.Given as goal

-- the words so far name calls
abbrev pub invariant-loop-index : goal.invariant-loop-index
invariant-loop-index l = (calls : List Call) × Begin l.words l.index calls
