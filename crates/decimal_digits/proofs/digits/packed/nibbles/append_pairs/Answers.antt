use Rattle.std.proofs.Common.{arith}
use Rattle.decimal_digits.proofs.lemmas.digits.Nibbles.{nibble_rules}
use Rattle.decimal_digits.proofs.digits.packed.nibbles.append_pairs.Goals as goal

pub returns : goal.returns
returns c = grind (arith, nibble_rules)
