use Rattle.std.proofs.Common.{arith}
use Rattle.decimal_digits.proofs.lemmas.rounding.Remainders.{part_below, part_half, part_above}
use Rattle.decimal_digits.proofs.rounding.remainder.combine_remainders.Goals as goal

pub returns-then-quarters-step : goal.returns-then-quarters-step
returns-then-quarters-step c =
    part_below c.args.remainder c.args.step c.args.rest c.if-quarters-step.true c.if-quarters-eq0.false

pub returns-then-quarters-step-2 : goal.returns-then-quarters-step-2
returns-then-quarters-step-2 c = part_half c.args.remainder c.args.step c.args.rest c.if-quarters-step-2.true

pub returns-else-quarters-step-2 : goal.returns-else-quarters-step-2
returns-else-quarters-step-2 c = part_above c.args.remainder c.args.step c.args.rest c.requires.rest (omega arith)
