use Rattle.std.proofs.{Common.{◌-◌, get_or, ◌∙◌, ap, sym, arith}, lemmas.List.get_or-take}
use Rattle.decimal_digits.proofs.lemmas.digits.Nibbles.{nibble_rules}
use Rattle.decimal_digits.proofs.digits.packed.bulk.count_trailing_nibbles.Goals as goal

pub returns-then-count-le16-clause-equal : goal.returns-then-count-le16-clause-equal
returns-then-count-le16-clause-equal c = λ k h l.
    sym (ap (λ ns. get_or ns k 0) c.front_word.ensures ∙ get_or-take 16 _ k 0 (omega arith))
    ∙ c.count_equal_nibbles.ensures.equal k h l

pub returns-then-count-le16-clause-maximal : goal.returns-then-count-le16-clause-maximal
returns-then-count-le16-clause-maximal c = λ h same.
    let k = c.args.count - c.count_equal_nibbles.result - 1 in
    c.count_equal_nibbles.ensures.maximal h
    (ap (λ ns. get_or ns k 0) c.front_word.ensures ∙ get_or-take 16 _ k 0 (omega arith) ∙ same)

pub bounds-bytes-pairs : goal.bounds-bytes-pairs
bounds-bytes-pairs c = grind (arith, nibble_rules)

pub returns-then-bytes-count : goal.returns-then-bytes-count
returns-then-bytes-count c = grind (arith, nibble_rules)

pub returns-then-bytes-pairs : goal.returns-then-bytes-pairs
returns-then-bytes-pairs c = grind (arith, nibble_rules)

pub returns : goal.returns
returns c = grind (arith, nibble_rules)
