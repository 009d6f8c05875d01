use Rattle.std.proofs.Common.{arith}
use Rattle.decimal_digits.proofs.lemmas.digits.{Nibbles.nibble_rules, Packing.encodes}
use Rattle.decimal_digits.proofs.digits.packed.bytes.append_zeros.Goals as goal

pub returns-clause-encodes : goal.returns-clause-encodes
returns-clause-encodes c = rw c.push_zeros.ensures.items (encodes _ _ _ (grind (arith, nibble_rules)))
