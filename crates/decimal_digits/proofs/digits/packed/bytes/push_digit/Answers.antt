use Rattle.std.proofs.Common.{arith}
use Rattle.decimal_digits.proofs.lemmas.digits.{Nibbles.nibble_rules, Packing.{digit_at, digit_lt, pads}}
use Rattle.decimal_digits.specs.Packing.{padding}
use Rattle.decimal_digits.proofs.digits.packed.bytes.push_digit.Goals as goal

pub returns-else-len-clause-encodes : goal.returns-else-len-clause-encodes
returns-else-len-clause-encodes c =
    let p = c.requires.padded in
    rw c.push_reserved.ensures.items
    (pads _ _ _ (grind (arith, nibble_rules, p.count)) (grind (arith, nibble_rules, padding))
    (λ k. grind (arith, nibble_rules, padding, digit_at _ _ p k))
    (λ k h. grind (arith, nibble_rules, padding, digit_at _ _ p k, digit_lt _ _ p k)))
