use Rattle.std.proofs.{Common.{arith, refl}, lemmas.Int.ints}
use Rattle.decimal_unsigned.proofs.lemmas.parse.Plans.{long_whole, long_fraction, makes_zero, makes_plain, is_plan_at}
use Rattle.decimal_unsigned.specs.Parts.{view}
use Rattle.decimal_unsigned.proofs.decimal.parse.plan.planned.Goals as goal

pub returns-then-whole-gt32768-clause-none : goal.returns-then-whole-gt32768-clause-none
returns-then-whole-gt32768-clause-none c = long_whole (view c.args.parts.now) c.if-whole-gt32768.true

pub returns-then-fraction-gt32768-clause-none : goal.returns-then-fraction-gt32768-clause-none
returns-then-fraction-gt32768-clause-none c = long_fraction (view c.args.parts.now) c.if-fraction-gt32768.true

pub returns-in_default-clause-some : goal.returns-in_default-clause-some
returns-in_default-clause-some c =
    let k = makes_zero (view c.args.parts.now) c.requires.digits c.if-whole-gt32768.false c.if-fraction-gt32768.false
    (λ k h. c.in_default.ensures.none k) in
    is_plan_at _ 0 0 _ _ _ _ k (omega (arith, ints, c.to_bounds.ensures.magnitude))
    (omega (arith, ints, c.to_bounds.ensures.hi)) (omega (arith, ints, c.to_bounds.ensures.lo))

pub returns-in-None-clause-some : goal.returns-in-None-clause-some
returns-in-None-clause-some c =
    let k = makes_plain (view c.args.parts.now) c.requires.digits c.if-whole-gt32768.false c.if-fraction-gt32768.false
    c.in-Some.start c.in-Some.end c.in-Some.ensures.some _ refl c.in-None.is in
    is_plan_at _ _ _ _ _ _ _ k (omega (arith, ints, c.to_bounds-in-None.ensures.magnitude))
    (omega (arith, ints, c.to_bounds-in-None.ensures.hi)) (omega (arith, ints, c.to_bounds-in-None.ensures.lo))
