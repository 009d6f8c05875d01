use Rattle.std.proofs.Common.{ℕ, ◌<◌}
use Rattle.decimal_format.specs.Readable.{IsApart}
use Rattle.decimal_format.proofs.symbols.DecimalSymbols.is_readable.Given as goal

abbrev pub invariant-loop-part : goal.invariant-loop-part
invariant-loop-part l = (k : ℕ) → k < l.part → IsApart l.self k
