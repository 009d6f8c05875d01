use Rattle.std.proofs.Common.{◌≡◌, ◌^◌, ◌∙◌, ap, arith}
use Rattle.decimal_digits.specs.Remainders.{leading}
use Rattle.decimal_unsigned.proofs.lemmas.from_bcd.WholeNumbers.{part_result, whole_result, few_digits_result, many_digits_result}
use Rattle.decimal_unsigned.specs.ToInteger.{in_range}
use Rattle.decimal_unsigned.proofs.decimal.UnsignedOver.try_to_u128.Goals as goal

pub returns-in_default : goal.returns-in_default
returns-in_default g c = part_result c.self.invariant c.self.view_is _ c.len.ensures c.in_default.ensures.none

pub returns-in-39 : goal.returns-in-39
returns-in-39 g c =
    whole_result c.self.invariant c.self.view_is _ c.len.ensures c.in-Some.ensures.some
    (c.leading_39_digits.ensures ∙ ap (λ k. in_range (2 ^ 128) (leading k (g.D.DigitStore.digits c.self.inside.digits)))
    (let is : 39 ≡ c.in-Some.count = omega arith in is))

pub returns-in-0-to-19 : goal.returns-in-0-to-19
returns-in-0-to-19 g c =
    few_digits_result c.self.invariant c.self.view_is _ c.len.ensures c.in-Some.ensures.some
    19 (g.met.D.DigitStore.are_digits c.self.inside.digits) (omega arith) (omega arith) c.leading_u64.ensures

pub returns-in-20-to-38 : goal.returns-in-20-to-38
returns-in-20-to-38 g c =
    few_digits_result c.self.invariant c.self.view_is _ c.len.ensures c.in-Some.ensures.some
    38 (g.met.D.DigitStore.are_digits c.self.inside.digits) (omega arith) (omega arith) c.leading_u128.ensures

pub returns-in_default-count : goal.returns-in_default-count
returns-in_default-count g c =
    many_digits_result c.self.invariant c.self.view_is _ c.len.ensures c.in-Some.ensures.some
    39 (omega arith) (omega arith) (omega arith)
