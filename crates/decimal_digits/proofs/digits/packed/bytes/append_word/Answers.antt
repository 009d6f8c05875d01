use Rattle.std.proofs.Common.{arith}
use Rattle.decimal_digits.proofs.lemmas.digits.Words.{join_pads, few_at, zeros_after}
use Rattle.decimal_digits.specs.Packing.{length_digits}
use Rattle.decimal_digits.proofs.digits.packed.bytes.append_word.Goals as goal

pub join_nibbles-word-requires-clause-zeros : goal.join_nibbles-word-requires-clause-zeros
join_nibbles-word-requires-clause-zeros c =
    zeros_after c.args.bytes.now.items c.args.len c.args.start c.front_word.result c.requires.padded c.requires.after
    (omega (arith, c.requires.few)) (rw c.as_slice.ensures at c.front_word.ensures)

pub returns-clause-encodes : goal.returns-clause-encodes
returns-clause-encodes c =
    let q = c.requires.other_padded in
    let size = length_digits c.args.other.now c.args.count q in
    rw (c.set_front.ensures.items (omega (arith, c.requires.padded.count)))
    (rw size at (join_pads c.args.bytes.now.items c.args.len c.args.start c.front_word.result c.front_word-2.result
    c.join_nibbles-word.result _ c.requires.padded c.requires.after (omega (arith, c.requires.few, size)) q.decimal
    (rw c.as_slice.ensures at c.front_word.ensures)
    (few_at c.args.other.now c.args.count c.front_word-2.result q (omega (arith, c.requires.few))
    c.front_word-2.ensures)
    c.join_nibbles-word.ensures))
