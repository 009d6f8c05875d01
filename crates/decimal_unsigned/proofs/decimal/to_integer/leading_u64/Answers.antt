use Rattle.std.proofs.{Common.{◌≡◌, ◌+◌, ◌-◌, ◌*◌, ◌/◌, ◌^◌, ◌<◌, drop, ap, arith}, lemmas.List.Elements.All-drop}
use Rattle.decimal_digits.specs.Remainders.{leading}
use Rattle.decimal_unsigned.proofs.{lemmas.from_bcd.WholeNumbers.{few_leading, more_leading}, decimal.to_integer.leading_u64.Given.Over}
use Rattle.decimal_unsigned.proofs.decimal.to_integer.leading_u64.Goals as goal

pub returns-then-count-le16 : goal.returns-then-count-le16
returns-then-count-le16 g c =
    few_leading (g.D.DigitStore.digits c.args.digits.now) (g.met.D.DigitStore.are_digits c.args.digits.now)
    c.args.count _ c.number_of_bcd.result c.if-count-le16.true
    (ap (λ n. n / 2 ^ (4 * (16 - c.args.count))) c.bcd_at-front.ensures) c.number_of_bcd.ensures

-- the number of the first sixteen digits and of the others
sums : (g : Over) (c : goal.After-power_of_ten g) →
    (c.number_of_bcd-2.result * c.power_of_ten.result + c.number_of_bcd-rest.result
    ≡ leading c.args.count (g.D.DigitStore.digits c.args.digits.now))
    × (c.number_of_bcd-2.result * c.power_of_ten.result + c.number_of_bcd-rest.result < 10 ^ 19)
sums g c =
    let ds = g.D.DigitStore.digits c.args.digits.now in
    let digits = g.met.D.DigitStore.are_digits c.args.digits.now in
    let shift : 4 * (32 - c.args.count) ≡ 4 * (16 - (c.args.count - 16)) = omega arith in
    let front =
    few_leading ds digits 16 _ c.number_of_bcd-2.result (omega arith) (omega (arith, c.bcd_at-front.ensures))
    c.number_of_bcd-2.ensures in
    let rest =
    few_leading (drop 16 ds) (All-drop (λ d. d < 10) 16 ds digits) (c.args.count - 16) _ c.number_of_bcd-rest.result
    (omega arith) (λ k. c.bcd_at.ensures k / 2 ^ shift k) c.number_of_bcd-rest.ensures in
    more_leading ds digits c.args.count c.number_of_bcd-2.result c.power_of_ten.result c.number_of_bcd-rest.result
    (omega arith) c.requires.fits front c.power_of_ten.ensures rest

pub overflow_mul-result : goal.overflow_mul-result
overflow_mul-result g c = omega (arith, (sums g c).1)

pub overflow_add-result : goal.overflow_add-result
overflow_add-result g c = omega (arith, (sums g c).1)

pub returns : goal.returns
returns g c = (sums g c).0
