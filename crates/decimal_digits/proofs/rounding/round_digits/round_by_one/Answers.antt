use Rattle.std.proofs.{Common.{◌-◌, true, false, refl, arith, rules}, lemmas.Option.IfSome_then}
use Rattle.decimal_digits.proofs.lemmas.{digits.Nibbles.nibble_rules, rounding.{Leading.leading_raised, Remainders.{one_by, exact_stays}, Results.if_none}}
use Rattle.decimal_digits.specs.Remainders.{leading}
use Rattle.decimal_digits.proofs.rounding.round_digits.round_by_one.Goals as goal

pub returns-then-matches-clause-value : goal.returns-then-matches-clause-value
returns-then-matches-clause-value g c = exact_stays c.args.mode c.args.remainder _ _ (search rules) refl

pub returns-then-not-rounds_up : goal.returns-then-not-rounds_up
returns-then-not-rounds_up g c =
    let value = rw c.last_of-last.ensures.reads.0 at c.keep_leading.ensures.value in
    let n = leading c.args.keep (g.D.DigitStore.digits c.keep_leading.new.counted.list.now) in
    let rounds = one_by c.args.mode c.args.remainder _ n _ _ false c.last_of-last.ensures.value
    c.if-not-rounds_up.ensures (omega (arith, value)) in
    grind arith

pub returns-then-keep-eq0-clause-value : goal.returns-then-keep-eq0-clause-value
returns-then-keep-eq0-clause-value g c =
    IfSome_then c.carry_out.result (rw c.last_of-last.ensures.reads.0 at c.carry_out.ensures.value) (λ places value.
    one_by c.args.mode c.args.remainder _ _ _ _ true c.last_of-last.ensures.value c.if-not-rounds_up.ensures value)

pub returns-then-keep-eq0-clause-up : goal.returns-then-keep-eq0-clause-up
returns-then-keep-eq0-clause-up g c =
    if_none c.carry_out.result _
    (one_by c.args.mode c.args.remainder _ _ _ _ true c.last_of-last.ensures.value c.if-not-rounds_up.ensures refl)

pub returns-then-last-eq9-clause-value : goal.returns-then-last-eq9-clause-value
returns-then-last-eq9-clause-value g c =
    IfSome_then c.add_one.result (rw c.last_of-last.ensures.reads.0 at c.add_one.ensures.value) (λ places value.
    one_by c.args.mode c.args.remainder _ _ _ _ true c.last_of-last.ensures.value c.if-not-rounds_up.ensures value)

pub returns-then-last-eq9-clause-up : goal.returns-then-last-eq9-clause-up
returns-then-last-eq9-clause-up g c =
    if_none c.add_one.result _
    (one_by c.args.mode c.args.remainder _ _ _ _ true c.last_of-last.ensures.value c.if-not-rounds_up.ensures refl)

pub returns-clause-value : goal.returns-clause-value
returns-clause-value g c =
    one_by c.args.mode c.args.remainder _ _ _ _ true c.last_of-last.ensures.value c.if-not-rounds_up.ensures
    (leading_raised c.args.keep (c.args.keep - 1) _ _ (omega arith) (λ i h. grind (arith, nibble_rules))
    (grind (arith, nibble_rules)) (λ i h l. absurd (omega arith)) (λ i h l. absurd (omega arith)))

pub returns-clause-stripped : goal.returns-clause-stripped
returns-clause-stripped g c = grind (arith, nibble_rules)
