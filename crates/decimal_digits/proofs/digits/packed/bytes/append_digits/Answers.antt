use Rattle.std.proofs.Common.{length, ap, arith}
use Rattle.decimal_digits.proofs.lemmas.digits.{Nibbles.nibble_rules, Packing.encodes}
use Rattle.decimal_digits.proofs.digits.packed.bytes.append_digits.Goals as goal

pub returns-then-len-eq0-clause-encodes : goal.returns-then-len-eq0-clause-encodes
returns-then-len-eq0-clause-encodes c =
    rw (rw c.unwrap.ensures at c.extend_from_slice.ensures.ok) (encodes _ _ _ (grind (arith, nibble_rules)))

pub returns-else-len-eq0-clause-encodes : goal.returns-else-len-eq0-clause-encodes
returns-else-len-eq0-clause-encodes c =
    encodes _ _ _ (grind (arith, nibble_rules, ap length c.append_nibbles.ensures.joined))
