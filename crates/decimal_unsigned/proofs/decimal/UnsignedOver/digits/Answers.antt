use Rattle.std.proofs.Common.{◌≡◌, ◌-◌, ◌+◌, ◌∙◌, arith}
use Rattle.std.specs.Int.{int_gap}
use Rattle.decimal_unsigned.proofs.lemmas.{decimal.Values.{hi_kept, lo_kept, magnitude_kept, told}, text.ShownDigits.stored_shown}
use Rattle.decimal_unsigned.specs.ShownDigits.{shown_digits}
use Rattle.decimal_unsigned.proofs.decimal.UnsignedOver.digits.Goals as goal

pub returns : goal.returns
returns g c =
    let t = c.self.invariant in
    let s = c.self.inside in
    let above : c.count_between.result ≡ int_gap s.magnitude s.hi + 1 =
    c.count_between.ensures ∙ (λ i. int_gap (magnitude_kept t i) (hi_kept t i) + 1) in
    let rest : c.count_between-2.result ≡ int_gap s.lo s.magnitude + 1 =
    c.count_between-2.ensures ∙ (λ i. int_gap (lo_kept t i) (magnitude_kept t i) + 1) in
    told t c.self.view_is shown_digits
    (stored_shown t (c.count_between.result - 1) c.count_between-2.result (omega (arith, above)) rest)
