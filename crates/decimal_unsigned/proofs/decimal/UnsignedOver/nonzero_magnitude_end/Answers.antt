use Rattle.std.proofs.{Common.{sym, ◌∙◌, arith, rules}, lemmas.{Grind.common_steps, Int.ints}}
use Rattle.decimal_digits.proofs.lemmas.ops.Offsets.{offset_is}
use Rattle.decimal_unsigned.proofs.lemmas.decimal.Values.{last-number_of, last_of_none, magnitude_kept, narrow_kept, last_told}
use Rattle.decimal_unsigned.proofs.decimal.UnsignedOver.nonzero_magnitude_end.Goals as goal

pub magnitude_of-requires : goal.magnitude_of-requires
magnitude_of-requires g c = grind (arith, ints, offset_is, common_steps)

pub returns-then-len-eq0 : goal.returns-then-len-eq0
returns-then-len-eq0 g c =
    last_told c.self.invariant c.self.view_is (sym (last_of_none c.self.invariant (search rules)))

pub returns-else-len-eq0 : goal.returns-else-len-eq0
returns-else-len-eq0 g c =
    let t = c.self.invariant in
    last_told t c.self.view_is
    (narrow_kept c.magnitude_of.type_inv
    ∙ c.magnitude_of.ensures
    ∙ (rw (magnitude_kept t, c.len-len.ensures)
    (sym (last-number_of t (omega (arith, c.len-len.ensures, c.if-len-eq0.false))))))
