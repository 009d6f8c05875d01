use Rattle.std.proofs.{Common.{◌-◌, ℕ, length, ap, arith}, lemmas.List.{length-set, length-take}}
use Rattle.decimal_digits.proofs.lemmas.{digits.Nibbles.nibble_rules, rounding.Leading.leading_raised}
use Rattle.decimal_digits.proofs.rounding.carry.add_one.Goals as goal

pub returns-clause-value : goal.returns-clause-value
returns-clause-value g c =
    let nines = c.count_trailing-nines in
    leading_raised c.args.places (c.args.places - nines.result - 1) _ _ (omega arith)
    (λ i h. grind (arith, nibble_rules))
    (grind (arith, nibble_rules)) (λ i h l. nines.ensures.equal i (omega arith) l)
    (λ i h l. grind (arith, nibble_rules))

pub returns-clause-accesses : goal.returns-clause-accesses
returns-clause-accesses g c =
    let put = ap length c.set.ensures.digits in
    omega (arith, put, ap length c.truncate.ensures.digits, length-set {A = ℕ}, length-take {A = ℕ})

pub returns-clause-stripped : goal.returns-clause-stripped
returns-clause-stripped g c = grind (arith, nibble_rules)

pub returns-then-nines-places : goal.returns-then-nines-places
returns-then-nines-places g c = grind arith
