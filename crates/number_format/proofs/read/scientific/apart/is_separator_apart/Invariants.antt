use Rattle.std.proofs.Common.{ℕ, ◌<◌}
use Rattle.decimal_format.specs.Readable.{code}
use Rattle.number_format.specs.ScientificReading.{AreApart}
use Rattle.number_format.proofs.read.scientific.apart.is_separator_apart.Given as goal

abbrev pub invariant-loop-index : goal.invariant-loop-index
invariant-loop-index l = (k : ℕ) → k < l.index → AreApart l.separator (code l.symbols k)
