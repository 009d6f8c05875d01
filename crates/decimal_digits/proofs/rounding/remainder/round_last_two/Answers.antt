use Rattle.std.proofs.Common.{true, false, refl, arith}
use Rattle.decimal_digits.proofs.lemmas.rounding.Remainders.{two_split}
use Rattle.decimal_digits.proofs.rounding.remainder.round_last_two.Goals as goal

pub returns-then-rounds_up-clause-rounds : goal.returns-then-rounds_up-clause-rounds
returns-then-rounds_up-clause-rounds c =
    let split = c.split_by-step in
    two_split c.args.mode c.args.increment c.args.remainder _ _ _ _ _ _ true split.ensures.step split.ensures.rest
    split.ensures.odd c.combine_remainders.ensures c.if-rounds_up.ensures refl

pub returns-else-rounds_up-clause-rounds : goal.returns-else-rounds_up-clause-rounds
returns-else-rounds_up-clause-rounds c =
    let split = c.split_by-step in
    two_split c.args.mode c.args.increment c.args.remainder _ _ _ _ _ _ false split.ensures.step split.ensures.rest
    split.ensures.odd c.combine_remainders.ensures c.if-rounds_up.ensures (omega arith)
