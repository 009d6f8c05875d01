use Rattle.std.proofs.Common.{◌∙◌}
use Rattle.decimal_digits.specs.Number.{digit}
use Rattle.decimal_unsigned.proofs.lemmas.{decimal.Values.told, text.ShownDigits.digit_by_index}
use Rattle.decimal_unsigned.proofs.decimal.UnsignedOver.digit_at.Goals as goal

pub returns : goal.returns
returns g c =
    let index = c.wrapping_index-index.ensures in
    told c.self.invariant c.self.view_is (λ v. digit v.number c.args.magnitude)
    (c.digit_or_zero.ensures.value ∙ digit_by_index c.self.invariant c.args.magnitude c.wrapping_index-index.result
    c.ranges.magnitude.sfits index.within index.above)
