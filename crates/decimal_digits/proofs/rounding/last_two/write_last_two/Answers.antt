use Rattle.std.proofs.{Common.arith, lemmas.Grind.common_steps}
use Rattle.decimal_digits.proofs.lemmas.{digits.Nibbles.nibble_rules, rounding.Leading.leading_put}
use Rattle.decimal_digits.proofs.rounding.last_two.write_last_two.Goals as goal

pub returns-then-number-eq0-clause-value : goal.returns-then-number-eq0-clause-value
returns-then-number-eq0-clause-value g c = grind (arith, leading_put, nibble_rules, common_steps)

pub returns-clause-value : goal.returns-clause-value
returns-clause-value g c =
    leading_put c.args.keep c.args.number _ _ (omega arith) (λ i h. grind (arith, nibble_rules))
    (grind (arith, nibble_rules)) (grind (arith, nibble_rules))

pub returns-clause-stripped : goal.returns-clause-stripped
returns-clause-stripped g c = grind (arith, nibble_rules)

pub returns-then-number-eq0-clause-stripped : goal.returns-then-number-eq0-clause-stripped
returns-then-number-eq0-clause-stripped g c = grind (arith, nibble_rules)
