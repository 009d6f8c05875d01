use Rattle.std.proofs.{Common.{length, get_or, ap, arith}, lemmas.Grind.same_number_lists}
use Rattle.decimal_digits.proofs.lemmas.digits.Nibbles.{nibble_rules}
use Rattle.decimal_digits.proofs.digits.packed.nibbles.remove_low_nibble.Goals as goal

pub returns : goal.returns
returns c =
    let moved = c.remove_high_nibble.ensures in
    same_number_lists _ _ (grind (arith, nibble_rules, ap length moved))
    (λ k l. grind (arith, nibble_rules, ap (λ xs. get_or xs k 0) moved))
