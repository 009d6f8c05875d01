use Rattle.std.proofs.{Common.{◌≡◌, ◌*◌, true, Ok, Err, sym, ◌∙◌, ap, arith, rules, w16, to_z, of_z, FitsSigned}, lemmas.Int.{ints, clamps, to_z-of_z}}
use Rattle.std.specs.Prelude.{Result, ℤ, pos, neg_ℤ, ◌≤ℤ◌, int_lt, unsigned_abs, OnOk}
use Rattle.decimal_digits.specs.{Number.{offset, weight}, declared.rounding.UnsignedRoundingMode.TheVariants.HalfEven}
use Rattle.decimal_unsigned.specs.Rounded.{rounding_by_1, UpdatesInPlace}
use Rattle.fixed_decimal.specs.{Decimal.{Decimal, signed_number}, SignedRounding.IsRounded, declared.rounding.SignedRoundingMode.TheVariants.Unsigned}
use Rattle.fixed_decimal.proofs.Calling.{ten_pos, absolute_number, signed_rounded_to-some, nearest_within}
use Rattle.uses.specs.Measurement.{shortened, IsNear}
use Rattle.uses.proofs.measurement.limit_decimals.Goals as goal

module _ {E : Type 0} (old new : Decimal) (position : ℤ) where
  rounds_so : (r : Result (Unit {0}) E) → int_lt old.absolute.lo position ≡ true
      → UpdatesInPlace (IsRounded old (rounding_by_1 position (Unsigned HalfEven))) old new r
      → UpdatesInPlace (λ made. shortened old position ≡ made) old new r
  rounds_so (Ok x) more a = rw more a.value
  rounds_so (Err e) more (a, same) = (rw more a.value, same)

  near_so : (r : Result (Unit {0}) E) → position ≤ℤ pos 0
      → UpdatesInPlace (IsRounded old (rounding_by_1 position (Unsigned HalfEven))) old new r
      → OnOk r (IsNear old position new)
  near_so (Ok x) low a =
      let is = signed_rounded_to-some old new position a.named.0 a.named.2 in
      let (q, multiple, chosen) = a.named.1 in
      let near = nearest_within (1 * weight position) (unsigned_abs (signed_number old)) (q * (1 * weight position))
      (omega (arith, ten_pos (offset position))) chosen.0 in
      let number = sym multiple ∙ ap (λ (v : Decimal). v.absolute.number) is in
      record {
        shown = omega (arith, ints, clamps, low, ap (λ (v : Decimal). v.absolute.lo) is);
        near = omega (arith, rw (absolute_number old, number) at near);
        sign = sym (ap (λ (v : Decimal). v.sign) is);
      }
  near_so (Err e) low a = tt

pub returns-then-shows_more : goal.returns-then-shows_more
returns-then-shows_more c =
    let position = c.position_of-position.result in
    let fits : FitsSigned w16 position = search rules in
    let kept : to_z w16 (of_z w16 position) ≡ neg_ℤ (pos c.args.decimals) =
    to_z-of_z w16 position fits ∙ c.position_of-position.ensures in
    let more : int_lt c.args.value.now.absolute.lo (to_z w16 (of_z w16 position)) ≡ true = search rules in
    let rounds = rw kept at c.round.ensures.rounds in
    record {
      rounds = rounds_so c.args.value.now c.round.new.self _ c.round.result (rw kept at more) rounds;
      near = near_so c.args.value.now c.round.new.self _ c.round.result (omega (arith, ints)) rounds;
      fits = c.round.ensures.fits;
    }
