use Rattle.std.proofs.Common.{arith}
use Rattle.decimal_digits.proofs.lemmas.digits.Nibbles.{nibble_rules}
use Rattle.decimal_digits.proofs.digits.packed.bulk.write_pairs.Goals as goal

pub loop-i-preserved : goal.loop-i-preserved
loop-i-preserved c = grind (arith, nibble_rules)
