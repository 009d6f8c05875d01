use Rattle.std.proofs.Common.{◌≢◌, ℕ, ◌<◌, List, ◌++◌}
use Rattle.decimal_format.specs.Readable.{code}
use Rattle.number_format.proofs.read.scientific.scan.next_code.Given as goal

abbrev pub invariant-loop-index : goal.invariant-loop-index
invariant-loop-index l = (k : ℕ) → k < l.index → (rest : List ℕ) → l.fn.text ≢ code l.symbols k ++ rest
