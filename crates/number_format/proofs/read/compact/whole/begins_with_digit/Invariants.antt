use Rattle.std.proofs.Common.{◌≢◌, ℕ, ◌<◌, List, ◌++◌}
use Rattle.decimal_format.specs.Readable.{code}
use Rattle.number_format.proofs.read.compact.whole.begins_with_digit.Given as goal

abbrev pub invariant-loop-digit : goal.invariant-loop-digit
invariant-loop-digit l = (k : ℕ) → k < l.digit → (rest : List ℕ) → l.fn.text ≢ code l.symbols k ++ rest
