use Rattle.std.proofs.Common.{length, get_or, refl, ap, ◌∙◌, arith}
use Rattle.decimal_digits.proofs.lemmas.digits.{Nibbles.nibble_rules, Packing.{encodes, encodes_many}, Words.word_pads}
use Rattle.decimal_digits.proofs.digits.packed.bytes.pack_digits.Goals as goal

pub returns-then-digits-le16-clause-ok : goal.returns-then-digits-le16-clause-ok
returns-then-digits-le16-clause-ok c =
    rw (c.from_buf.ensures.items ∙ c.to_be_bytes.ensures)
    (word_pads c.pack_word.result _ _ refl (omega arith) (λ k h. grind (arith, nibble_rules))
    (λ k h. grind (arith, nibble_rules, ap (λ l. get_or l k 0) c.pack_word.ensures)))

pub returns-clause-ok : goal.returns-clause-ok
returns-clause-ok c =
    encodes_many _ _ _ (omega arith) (encodes _ _ _ (grind (arith, nibble_rules, ap length c.pack.ensures)))
