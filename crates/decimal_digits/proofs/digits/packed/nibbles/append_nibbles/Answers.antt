use Rattle.std.proofs.{Common.{length, get_or, ap, arith}, lemmas.Grind.same_number_lists}
use Rattle.decimal_digits.proofs.{lemmas.digits.Nibbles.nibble_rules, digits.packed.nibbles.append_nibbles.Goals.{then-count-eq1, else-count-eq1}}
use Rattle.decimal_digits.proofs.digits.packed.nibbles.append_nibbles.Goals as goal

pub returns-clause-joined : goal.returns-clause-joined
returns-clause-joined c =
    let items = rw c.unwrap.ensures at c.extend_from_slice.ensures.ok in
    let moved = c.remove_low_nibble.ensures in
    same_number_lists _ _ (grind (arith, nibble_rules, ap length moved)) (λ k l.
    let at = ap (λ xs. get_or xs k 0) moved in
    elim c.if-count-eq1.branch [
      | then-count-eq1 w ↦ grind (arith, nibble_rules, at)
      | else-count-eq1 w ↦ grind (arith, nibble_rules, at)
    ])
