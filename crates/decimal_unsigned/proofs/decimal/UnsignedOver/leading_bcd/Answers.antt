use Rattle.std.proofs.{Common.{◌≡◌, ◌-◌, w16, to_z, of_z, ◌∙◌, ap, arith, pos, ◌+ℤ◌, ◌-ℤ◌}, lemmas.Int.ints}
use Rattle.decimal_digits.proofs.lemmas.ops.Offsets.{gap_is}
use Rattle.decimal_digits.specs.Number.{digit}
use Rattle.decimal_unsigned.proofs.lemmas.{decimal.Values.{magnitude_kept, hi_kept}, text.ShownDigits.digit_of_nibble}
use Rattle.decimal_unsigned.specs.Unsigned.{Unsigned}
use Rattle.decimal_unsigned.proofs.decimal.UnsignedOver.leading_bcd.Goals as goal

pub returns : goal.returns
returns g c k l =
    let t = c.self.invariant in
    let inside = c.self.inside in
    let zeros = c.count_between-zeros.result - 1 in
    let gap = gap_is (to_z w16 (of_z w16 inside.magnitude)) (to_z w16 (of_z w16 inside.hi)) in
    let at : inside.magnitude +ℤ pos zeros ≡ inside.hi =
    omega (arith, ints, c.count_between-zeros.ensures, magnitude_kept t, hi_kept t, t.hi_covers, gap) in
    digit_of_nibble t (g.met.D.DigitStore.are_digits inside.digits) zeros k c.bcd_at.result at c.bcd_at.ensures
    (omega arith) l
    ∙ ap (λ (v : Unsigned). digit v.number (v.hi -ℤ pos k)) c.self.view_is
