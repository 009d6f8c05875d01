use Rattle.std.proofs.{Common.arith, lemmas.Grind.common_steps}
use Rattle.decimal_digits.proofs.lemmas.digits.Words.{join_text, zeros_after}
use Rattle.decimal_digits.proofs.digits.packed.bulk.append_text.Goals as goal

pub join_nibbles-word-requires-clause-zeros : goal.join_nibbles-word-requires-clause-zeros
join_nibbles-word-requires-clause-zeros c = grind (arith, zeros_after, common_steps)

pub returns-then-text-len-clause-encodes : goal.returns-then-text-len-clause-encodes
returns-then-text-len-clause-encodes c =
    rw (c.set_front.ensures.items (omega (arith, c.requires.padded.count)))
    (join_text c.args.bytes.now.items c.args.len c.front_word.result c.pack_word.result c.join_nibbles-word.result
    c.args.text.now c.requires.padded (omega arith) c.requires.are_digits
    (rw c.as_slice.ensures at c.front_word.ensures) c.pack_word.ensures c.join_nibbles-word.ensures)
