use Rattle.std.proofs.{Common.{◌≡◌, ℕ, List, w16, to_z, of_z, sym, ◌∙◌, ap, arith, rules, Err, Some, pos, ◌-ℤ◌}, lemmas.{Int.{ints, to_z-of_z}, List.Elements.recursion_from_All, Result.err_from_is_err_and}}
use Rattle.std.specs.Int.{int_max, int_min}
use Rattle.decimal_digits.specs.{Digits.number_of, declared.rounding.RoundError.TheVariants.Limit}
use Rattle.decimal_unsigned.proofs.lemmas.{decimal.Values.{size-number_of, narrow_kept, magnitude_kept, hi_kept, value_of_view}, shift.{RoundingLaws.{is_rounded, fails, rounding_is_idempotent}, Roundings.{stored_left, rounded_left, number_of-stored, length-stored, not_limit_error, rounding_is_ok}}}
use Rattle.decimal_unsigned.specs.{Rounded.{rounded, rounding}, Stored.IsStored, Unsigned.Unsigned}
use Rattle.decimal_unsigned.proofs.decimal.UnsignedOver.round_counted.Goals as goal

-- the values of the fields after the rounding
left : (g : _) (c : goal.After-self-3-1 g)
    → let ds = g.D.DigitStore.digits c.round.new.counted.list.now in
    let m = to_z w16 (of_z w16 c.in_ok-first.first) in
    let hi = to_z w16 (of_z w16 c.highest_after-self-inside.result) in
    let lo = to_z w16 (of_z w16 c.min-self-inside.result) in
    record {
      stored : IsStored ds m hi lo;
      value : rounded c.args.self.now (rounding c.args.position c.args.mode c.args.increment)
          ≡ Some (record { number = number_of ds m; hi = hi; lo = lo });
    }
left g c =
    let t = c.self.invariant in
    let p = to_z-of_z w16 c.args.position c.ranges.position in
    let e = rw p at c.in_ok-first.ensures in
    let n = number_of-stored t c.self.view_is (ap g.D.DigitStore.digits c.new-counted.ensures.list)
    (magnitude_kept t) in
    let s = rw n at e.ok in
    let f : to_z w16 (of_z w16 c.in_ok-first.first) ≡ c.in_ok-first.first = omega (arith, ints, s.least, s.greatest) in
    let h = narrow_kept c.highest_after-self-inside.type_inv ∙ c.highest_after-self-inside.ensures
    ∙ (λ i. int_max (int_max (hi_kept t i) (p i -ℤ pos 1)) (f i)) in
    let o = narrow_kept c.min-self-inside.type_inv ∙ c.min-self-inside.ensures.value
    ∙ ap (λ x. int_min x (pos 0)) p in
    record {
      stored = stored_left s c.args.position c.self.inside.hi f h o e.above
          (recursion_from_All _ _ (g.met.D.DigitStore.are_digits c.round.new.counted.list.now)) t.hi_in t.in_range.1
          (omega (arith, ints)) (omega (arith, ints));
      value = rounded_left s c.args.position c.self.inside.hi f h o c.args.self.now
          (sym (ap (λ (v : Unsigned). v.hi) c.self.view_is));
    }

pub returns-in_err-first-clause-rounds : goal.returns-in_err-first-clause-rounds
returns-in_err-first-clause-rounds g c =
    let t = c.self.invariant in
    let e = err_from_is_err_and c.from_residual.result c.from_residual.ensures.1 in
    let borrows = ap g.D.DigitStore.digits c.new-counted.ensures.list in
    let shown : List ℕ → Unsigned = λ ds.
    record { number = number_of ds c.self.inside.magnitude; hi = c.self.inside.hi; lo = c.self.inside.lo } in
    rw (e.1, e.2) (
      fails _ _ c.args.self.now (rounding c.args.position c.args.mode c.args.increment) (value_of_view t c.self.view_is)
          (rw (
            to_z-of_z w16 c.args.position c.ranges.position,
            number_of-stored t c.self.view_is borrows (magnitude_kept t),
            length-stored t c.self.view_is borrows,
          ) at
          c.in_err-first.ensures.fails_with),
      ap shown (c.in_err-first.ensures.err ∙ borrows) ∙ c.self.view_is,
    )

pub returns-in_err-first-clause-no_limit : goal.returns-in_err-first-clause-no_limit
returns-in_err-first-clause-no_limit g c =
    not_limit_error g.D.DigitStore.L c.args.self.now (rounding c.args.position c.args.mode c.args.increment)
    (omega (arith, ints)) (omega (arith, ints)) _ c.from_residual.result (returns-in_err-first-clause-rounds g c)

pub returns-in_err-first-clause-fits : goal.returns-in_err-first-clause-fits
returns-in_err-first-clause-fits g c =
    rounding_is_ok g.D.DigitStore.L c.args.self.now (rounding c.args.position c.args.mode c.args.increment)
    (omega (arith, ints)) (omega (arith, ints)) _ c.from_residual.result (returns-in_err-first-clause-rounds g c)

pub returns-in_err-first-clause-limit_accesses : goal.returns-in_err-first-clause-limit_accesses
returns-in_err-first-clause-limit_accesses g c h =
    let e = err_from_is_err_and c.from_residual.result c.from_residual.ensures.1 in
    let told : c.in_err-first.field-0.0 ≡ Limit = cc in
    let accesses = c.in_err-first.ensures.limit_accesses (ap Err told) in
    let before = length-stored c.self.invariant c.self.view_is (ap g.D.DigitStore.digits c.new-counted.ensures.list) in
    let borrows = c.new-counted.ensures.accesses in
    let same = sym c.new-counted.ensures.borrows.1 ∙ sym c.round.ensures.borrows.1 in
    search (rules, before, borrows, accesses, same)

pub invariant_of-self-2 : goal.invariant_of-self-2
invariant_of-self-2 g c = (left g c).stored

pub returns-clause-rounds : goal.returns-clause-rounds
returns-clause-rounds g c =
    is_rounded c.args.self.now (rounding c.args.position c.args.mode c.args.increment)
    (value_of_view c.self.invariant c.self.view_is) (left g c).value

pub returns-clause-idempotent : goal.returns-clause-idempotent
returns-clause-idempotent g c =
    rounding_is_idempotent c.args.self.now _ (rounding c.args.position c.args.mode c.args.increment) (left g c).value

pub returns-clause-accesses : goal.returns-clause-accesses
returns-clause-accesses g c =
    let before = length-stored c.self.invariant c.self.view_is (ap g.D.DigitStore.digits c.new-counted.ensures.list) in
    let after = size-number_of (left g c).stored in
    let borrows = c.new-counted.ensures.accesses in
    let accesses = c.in_ok-first.ensures.accesses in
    let same = sym c.new-counted.ensures.borrows.1 ∙ sym c.round.ensures.borrows.1 in
    search (rules, before, after, borrows, accesses, same)
