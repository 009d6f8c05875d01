use Rattle.std.proofs.Common.{arith}
use Rattle.decimal_digits.proofs.lemmas.digits.Words.{cut_end_pads}
use Rattle.decimal_digits.proofs.digits.packed.bytes.cut_to_word.Goals as goal

pub returns-clause-encodes : goal.returns-clause-encodes
returns-clause-encodes c =
    rw (c.truncate.ensures.items, c.set_front.ensures.front)
    (cut_end_pads c.args.bytes.now.items c.args.len c.args.count _ c.end_word.result c.cut_nibbles-word.result
    c.requires.padded c.requires.many c.requires.in_range c.requires.few
    (omega (arith, c.byte_count.ensures)) (rw c.as_slice.ensures at c.end_word.ensures) c.cut_nibbles-word.ensures)
