use Rattle.std.proofs.Common.{◌*◌, length, take, ◌∙◌, ap, arith}
use Rattle.decimal_digits.proofs.{lemmas.digits.{Nibbles.nibble_rules, Packing.{encodes, encodes_many}, Words.{keep_pads, nibbles_take}}, digits.packed.bytes.keep_some.Goals.{then-count-eq1, else-count-eq1}}
use Rattle.decimal_digits.specs.{Nibbles.nibbles, Packing.padding}
use Rattle.decimal_digits.proofs.digits.packed.bytes.keep_some.Goals as goal

pub returns-then-count-le16-clause-encodes : goal.returns-then-count-le16-clause-encodes
returns-then-count-le16-clause-encodes c =
    rw (c.truncate.ensures.items, c.set_front.ensures.front)
    (keep_pads c.args.bytes.now.items c.args.len c.args.count c.front_word.result c.keep_nibbles-word.result
    c.requires.padded c.requires.in_range c.if-count-le16.true (rw c.as_slice.ensures at c.front_word.ensures)
    c.keep_nibbles-word.ensures)

pub returns-clause-encodes : goal.returns-clause-encodes
returns-clause-encodes c =
    let front = c.truncate-2.ensures.items in
    encodes_many _ _ _ (omega arith)
    (elim c.if-count-eq1.branch [
      | then-count-eq1 w ↦
          let e = ap nibbles front ∙ nibbles_take _ _
          ∙ ap (take (2 * c.byte_count.result)) (ap (λ v. nibbles v.items) w.bytes-is ∙ w.set_nibble.ensures.written) in
          encodes _ _ _ (grind (arith, nibble_rules, padding, e, ap length e))
      | else-count-eq1 w ↦ rw front (encodes _ _ _ (grind (arith, nibble_rules, padding)))
    ])
