use Rattle.std.proofs.Common.{arith}
use Rattle.decimal_format.proofs.symbols.DecimalSymbols.value.Goals as goal

pub returns : goal.returns
returns g c = grind arith
