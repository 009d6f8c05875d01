use Rattle.std.proofs.Common.{arith}
use Rattle.decimal_format.proofs.lemmas.reader.Codes.{digit_not_decimal, digit_not_grouping}
use Rattle.decimal_format.proofs.symbols.DecimalSymbols.begins_with_separator.Goals as goal

pub returns-then-is_some : goal.returns-then-is_some
returns-then-is_some g c = grind (arith, digit_not_grouping)

pub returns-else-is_some : goal.returns-else-is_some
returns-else-is_some g c = grind (arith, digit_not_decimal)
