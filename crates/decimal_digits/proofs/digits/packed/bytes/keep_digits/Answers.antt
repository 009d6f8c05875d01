use Rattle.std.proofs.Common.{arith}
use Rattle.decimal_digits.proofs.lemmas.digits.Words.{keep_pads}
use Rattle.decimal_digits.proofs.digits.packed.bytes.keep_digits.Goals as goal

pub returns-then-len-le16-clause-encodes : goal.returns-then-len-le16-clause-encodes
returns-then-len-le16-clause-encodes c =
    rw (c.set_front.ensures.items (omega (arith, c.requires.padded.count)))
    (keep_pads c.args.bytes.now.items c.args.len c.args.count c.front_word.result c.keep_nibbles-word.result
    c.requires.padded c.requires.in_range (omega arith) (rw c.as_slice.ensures at c.front_word.ensures)
    c.keep_nibbles-word.ensures)
