use Rattle.std.proofs.{Common.{◌≡◌, ◌≤◌, min, length, w16, w32, pos, ◌+ℤ◌, ◌-ℤ◌, to_z, of_z, refl, sym, ◌∙◌, ap, subst, arith}, lemmas.Int.{ints, to_z-of_z}}
use Rattle.std.specs.Int.{int_max, int_gap}
use Rattle.decimal_digits.proofs.lemmas.ops.Offsets.{offset_is}
use Rattle.decimal_unsigned.proofs.{lemmas.{decimal.Values.{lo_kept, magnitude_kept, narrow_kept, lowest, value_of_view}, laws.ValueLaws.splits, shift.Cuts.{Cuts, stored_cut, with_max_position_is}, text.Pieces.index_gap}, decimal.UnsignedOver.set_max_position.Goals.{then-start-len, else-start-len}}
use Rattle.decimal_unsigned.specs.{Edits.with_max_position, Unsigned.Unsigned, ValueLaws.{trunced, SplitsAt}}
use Rattle.decimal_unsigned.proofs.decimal.UnsignedOver.set_max_position.Goals as goal

pub magnitude_of-magnitude-requires : goal.magnitude_of-magnitude-requires
magnitude_of-magnitude-requires g c =
    let t = c.self.invariant in
    omega (arith, ints, magnitude_kept t, t.fits, t.in_range, lowest t, offset_is)

cuts : (g : _) (c : goal.After-self-3-1 g)
    → Cuts (g.D.DigitStore.digits c.self.inside.digits) c.self.inside.magnitude c.self.inside.lo c.args.position
    c.first_nonzero-start.result (to_z w16 c.if-start-len.magnitude-bits)
    (to_z w16 (of_z w16 c.at_least_zero-hi.result)) (to_z w16 (of_z w16 c.min-lo.result))
cuts g c =
    let t = c.self.invariant in
    let p : to_z w16 (of_z w16 c.args.position) ≡ c.args.position = to_z-of_z w16 c.args.position c.ranges.position in
    let f = c.first_nonzero-start.ensures in
    let from : c.min.result
    ≡ min (int_gap c.args.position (c.self.inside.magnitude +ℤ pos 1))
    (length (g.D.DigitStore.digits c.self.inside.digits)) =
    let gap = c.unwrap_or-above.ensures ∙ index_gap c.places_above.result _ _ c.places_above.ensures.some
    c.places_above.ensures.none in
    c.min.ensures ∙ (rw (gap, c.len-len.ensures, p, magnitude_kept t) refl) in
    record {
      from = subst (λ n. n ≤ c.first_nonzero-start.result) from f.from;
      within = f.within;
      zeros = λ k l h. f.zeros k (subst (λ n. n ≤ k) (sym from) l) h;
      found = f.found;
      some = λ h. elim c.if-start-len.branch [
        | then-start-len w ↦
            w.magnitude-is ∙ narrow_kept w.magnitude_of-magnitude.type_inv ∙ w.magnitude_of-magnitude.ensures
            ∙ ap (λ m. m -ℤ pos c.first_nonzero-start.result) (magnitude_kept t)
        | else-start-len w ↦ absurd (omega arith)
      ];
      none = λ h. elim c.if-start-len.branch [
        | then-start-len w ↦ absurd (omega arith)
        | else-start-len w ↦ omega (arith, ints)
      ];
      hi_is =
          narrow_kept c.at_least_zero-hi.type_inv ∙ c.at_least_zero-hi.ensures
          ∙ ap (λ x. int_max x (pos 0)) (let e : to_z w32 (of_z w32 c.add_magnitudes.result)
          ≡ c.args.position -ℤ pos 1 =
          omega (arith, ints, c.add_magnitudes.ensures, p) in e);
      lo_is = narrow_kept c.min-lo.type_inv ∙ c.min-lo.ensures.value ∙ (rw (lo_kept t, p) refl);
      position = omega (arith, ints);
    }

pub invariant_of-self : goal.invariant_of-self
invariant_of-self g c = rw c.drop_front.ensures (stored_cut c.self.invariant (cuts g c))

pub returns-clause-value : goal.returns-clause-value
returns-clause-value g c =
    rw c.drop_front.ensures
    (with_max_position_is c.self.invariant (cuts g c)
    ∙ ap (λ (v : Unsigned). with_max_position v c.args.position) c.self.view_is)

pub returns-clause-splits : goal.returns-clause-splits
returns-clause-splits g c =
    let v = c.args.self.now in
    let p = c.args.position in
    subst (SplitsAt v p (trunced v p)) (sym (returns-clause-value g c))
    (splits v p (value_of_view c.self.invariant c.self.view_is))
