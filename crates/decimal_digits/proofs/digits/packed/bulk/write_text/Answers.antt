use Rattle.std.proofs.{Common.{◌-◌, length, get_or, ap, arith}, lemmas.Grind.{common_steps, same_number_lists}}
use Rattle.decimal_digits.proofs.lemmas.digits.Nibbles.{nibble_rules}
use Rattle.decimal_digits.proofs.digits.packed.bulk.write_text.Goals as goal

pub returns-then-odd-eq0 : goal.returns-then-odd-eq0
returns-then-odd-eq0 c = grind (arith, same_number_lists, nibble_rules, common_steps)

pub returns-then-not-is_empty : goal.returns-then-not-is_empty
returns-then-not-is_empty c =
    let written = c.write_pairs-then-not-is_empty.ensures in
    let n = ap length written in
    same_number_lists _ _ (grind (arith, nibble_rules))
    (λ k h. grind (arith, nibble_rules, ap (λ l. get_or l (k - 1) 0) written))

pub write_pairs-requires-then-not-is_empty : goal.write_pairs-requires-then-not-is_empty
write_pairs-requires-then-not-is_empty c = grind (arith, nibble_rules)
