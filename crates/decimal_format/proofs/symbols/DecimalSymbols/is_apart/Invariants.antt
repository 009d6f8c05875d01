use Rattle.std.proofs.Common.{ℕ, ◌<◌}
use Rattle.decimal_format.specs.Readable.{IsOther}
use Rattle.decimal_format.proofs.symbols.DecimalSymbols.is_apart.Given as goal

abbrev pub invariant-loop-all : goal.invariant-loop-all
invariant-loop-all l = (k : ℕ) → k < l.all → IsOther l.self l.part k
