use Rattle.std.proofs.{Common.{◌≡◌, w16, to_z, of_z, refl, sym, ◌∙◌, ap, arith}, lemmas.{Grind.common_steps, Int.{ints, clamps, to_z-of_z}}}
use Rattle.decimal_unsigned.proofs.{lemmas.{decimal.Values.{hi_kept, lo_kept, magnitude_kept, narrow_kept, wide_kept}, shift.Shifts.{Moves, moved, stays_in, multiplied_is, multiplied_pow10_is, multiplied_pow10_over}}, decimal.UnsignedOver.multiply_pow10.Goals.{then-len-eq0, else-len-eq0}}
use Rattle.decimal_unsigned.specs.{Edits.{multiplied, multiplied_pow10}, Unsigned.Unsigned}
use Rattle.decimal_unsigned.proofs.decimal.UnsignedOver.multiply_pow10.Goals as goal

pub returns-in_default-clause-limit : goal.returns-in_default-clause-limit
returns-in_default-clause-limit g c = grind (arith, multiplied_pow10_over, ints, hi_kept, lo_kept, common_steps)

moves : (g : _) (c : goal.After-self-3-1 g)
    → Moves (g.D.DigitStore.digits c.self.inside.digits) c.self.inside.magnitude c.self.inside.hi c.self.inside.lo
    c.args.delta (to_z w16 c.if-len-eq0.magnitude-bits) (to_z w16 (of_z w16 c.in-Some.hi))
    (to_z w16 (of_z w16 c.in-Some.lo))
moves g c =
    let t = c.self.invariant in
    let e = c.in-Some.ensures in
    let d : to_z w16 (of_z w16 c.args.delta) ≡ c.args.delta = to_z-of_z w16 c.args.delta c.ranges.delta in
    record {
      some = λ p. elim c.if-len-eq0.branch [
        | then-len-eq0 w ↦ absurd (omega arith)
        | else-len-eq0 w ↦
            w.magnitude-is ∙ narrow_kept w.to_magnitude-magnitude.type_inv ∙ w.to_magnitude-magnitude.ensures
            ∙ wide_kept w.add_magnitudes.type_inv ∙ w.add_magnitudes.ensures ∙ (rw (magnitude_kept t, d) refl)
      ];
      none = λ z. elim c.if-len-eq0.branch [
        | then-len-eq0 w ↦ omega (arith, ints)
        | else-len-eq0 w ↦ absurd (omega arith)
      ];
      hi_is = omega (arith, ints, clamps, e.hi, e.fits, t.hi_in, hi_kept t, d);
      lo_is = omega (arith, ints, clamps, e.lo, e.fits, t.lo_in, lo_kept t, d);
      hi_fits = omega (arith, ints, e.fits, hi_kept t, d);
      lo_fits = omega (arith, ints, e.fits, lo_kept t, d);
    }

pub invariant_of-self : goal.invariant_of-self
invariant_of-self g c = moved c.self.invariant (moves g c)

pub returns-clause-ok : goal.returns-clause-ok
returns-clause-ok g c =
    ap (λ (v : Unsigned). multiplied_pow10 v c.args.delta) (sym c.self.view_is)
    ∙ multiplied_pow10_is c.args.delta c.self.invariant (moves g c)

pub returns-clause-fits : goal.returns-clause-fits
returns-clause-fits g c = grind (arith, moves, stays_in, common_steps)

pub returns-clause-moved : goal.returns-clause-moved
returns-clause-moved g c =
    multiplied_is c.args.delta c.self.invariant (moves g c)
    ∙ ap (λ (v : Unsigned). multiplied v c.args.delta) c.self.view_is
