use Rattle.std.proofs.{Common.arith, lemmas.Grind.common_steps}
use Rattle.decimal_unsigned.proofs.lemmas.from_bcd.WholeNumbers.{part_result, few_digits_result}
use Rattle.decimal_unsigned.proofs.decimal.UnsignedOver.try_to_u64.Goals as goal

pub returns-in_default : goal.returns-in_default
returns-in_default g c = part_result c.self.invariant c.self.view_is _ c.len.ensures c.in_default.ensures.none

pub returns-then-count-le19 : goal.returns-then-count-le19
returns-then-count-le19 g c =
    few_digits_result c.self.invariant c.self.view_is _ c.len.ensures c.in-Some.ensures.some
    19 (g.met.D.DigitStore.are_digits c.self.inside.digits) (omega arith) (omega arith) c.leading_u64.ensures

pub returns-in_err-integer : goal.returns-in_err-integer
returns-in_err-integer g c = grind (arith, common_steps)

pub returns-then-integer : goal.returns-then-integer
returns-then-integer g c = grind (arith, common_steps)

pub returns : goal.returns
returns g c = grind (arith, common_steps)
