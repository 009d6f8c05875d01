use Rattle.std.proofs.{Common.{◌∙◌, arith}, lemmas.Grind.common_steps}
use Rattle.decimal_unsigned.proofs.lemmas.decimal.Comparing.{lengths_decide, bytes_order}
use Rattle.decimal_unsigned.proofs.decimal.compare.compare_long.Goals as goal

pub returns : goal.returns
returns g c = grind (arith, lengths_decide, common_steps)

pub returns-in-Some-Some : goal.returns-in-Some-Some
returns-in-Some-Some g c =
    c.compare_bytes.ensures
    ∙ bytes_order (g.D.DigitStore.digits c.args.digits.now) (g.E.DigitStore.digits c.args.other.now)
    c.requires.stripped.back c.requires.other_stripped.back c.in-Some-Some.bytes.now c.in-Some-Some.other_bytes.now
    c.in-Some-Some.ensures.packed c.in-Some-Some.ensures.digits c.in-Some-Some.ensures'.packed
    c.in-Some-Some.ensures'.digits

pub returns-then-digit-other_digit : goal.returns-then-digit-other_digit
returns-then-digit-other_digit g c = grind (arith, common_steps)

pub loop-index-preserved : goal.loop-index-preserved
loop-index-preserved g c = grind (arith, common_steps)
