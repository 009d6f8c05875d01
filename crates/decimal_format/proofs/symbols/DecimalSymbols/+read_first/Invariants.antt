use Rattle.std.proofs.Common.{length}
use Rattle.decimal_format.proofs.symbols.DecimalSymbols.+read_first.Given as goal

abbrev pub decreases-read_first : goal.decreases-read_first
decreases-read_first g l = length l.alternatives.now
