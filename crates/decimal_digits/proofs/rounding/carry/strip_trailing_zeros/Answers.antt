use Rattle.std.proofs.Common.{arith}
use Rattle.decimal_digits.proofs.lemmas.{digits.Nibbles.nibble_rules, rounding.Leading.leading_same}
use Rattle.decimal_digits.proofs.rounding.carry.strip_trailing_zeros.Goals as goal

pub returns-clause-value : goal.returns-clause-value
returns-clause-value g c =
    leading_same _ _ _ (λ i h. grind (arith, nibble_rules, c.count_trailing-zeros.ensures.equal i))

pub returns-clause-some : goal.returns-clause-some
returns-clause-some g c = grind (arith, nibble_rules)

pub returns-clause-stripped : goal.returns-clause-stripped
returns-clause-stripped g c = grind (arith, nibble_rules)
