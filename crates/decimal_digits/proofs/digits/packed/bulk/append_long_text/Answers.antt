use Rattle.std.proofs.Common.{length, ap, arith}
use Rattle.decimal_digits.proofs.lemmas.digits.{DigitTexts.ascii_at, Nibbles.nibble_rules, Packing.{encodes, encodes_many}}
use Rattle.decimal_digits.proofs.digits.packed.bulk.append_long_text.Goals as goal

pub returns-then-odd-eq0-clause-encodes : goal.returns-then-odd-eq0-clause-encodes
returns-then-odd-eq0-clause-encodes c =
    let read = ascii_at c.args.text.now c.requires.are_digits in
    encodes_many _ _ _ (omega arith)
    (encodes _ _ _ (grind (arith, nibble_rules, ap length c.append_pairs.ensures.appended, read)))

pub returns-then-odd-eq0-clause-fits : goal.returns-then-odd-eq0-clause-fits
returns-then-odd-eq0-clause-fits c = grind (arith, nibble_rules, ap length c.append_pairs.ensures.appended)

pub returns-then-not-is_empty-clause-encodes : goal.returns-then-not-is_empty-clause-encodes
returns-then-not-is_empty-clause-encodes c =
    let read = ascii_at c.args.text.now c.requires.are_digits in
    let e = c.append_pairs-then-not-is_empty.ensures.appended in
    encodes_many _ _ _ (omega arith)
    (encodes _ _ _ (grind (arith, nibble_rules, ap length c.set_nibble.ensures.written, ap length e, read)))

pub returns-then-not-is_empty-clause-fits : goal.returns-then-not-is_empty-clause-fits
returns-then-not-is_empty-clause-fits c =
    let e = c.append_pairs-then-not-is_empty.ensures.appended in
    grind (arith, nibble_rules, ap length c.set_nibble.ensures.written, ap length e)

pub set_nibble-requires : goal.set_nibble-requires
set_nibble-requires c = grind (arith, nibble_rules)

pub append_pairs-requires-then-not-is_empty : goal.append_pairs-requires-then-not-is_empty
append_pairs-requires-then-not-is_empty c = grind (arith, nibble_rules)

pub returns-else-not-is_empty : goal.returns-else-not-is_empty
returns-else-not-is_empty c = grind (arith, nibble_rules)
