use Rattle.std.proofs.{Common.{arith, refl, sym, w16, to_z, of_z}, lemmas.Int.{ints, clamps}}
use Rattle.decimal_unsigned.proofs.lemmas.parse.BcdValues.{zero_stored, zero_is, short_sizes, short_value, short_zeros, wide_allocates, ok_is}
use Rattle.decimal_unsigned.proofs.decimal.UnsignedOver.from_bcd_digits.Goals as goal

pub invariant_of-result : goal.invariant_of-result
invariant_of-result g c =
    rw c.empty.ensures
    (zero_stored c.args.whole c.args.fraction c.args.number c.requires.digits.0 c.requires.digits.1 (omega arith)
    _ _ _ refl (omega (arith, ints, clamps)) (omega (arith, ints)))

pub returns-then-number-eq0-clause-value : goal.returns-then-number-eq0-clause-value
returns-then-number-eq0-clause-value g c = λ ds bcd.
    rw c.empty.ensures
    (zero_is c.args.whole c.args.fraction c.args.number ds bcd (omega arith) _ _ _ c.if-number-eq0.true
    (omega (arith, ints, clamps)) (omega (arith, ints)))

pub overflow_sub-len : goal.overflow_sub-len
overflow_sub-len g c =
    let n =
    short_sizes c.args.whole c.args.fraction c.args.number (omega arith) (omega arith) c.requires.at_most
    c.requires.digits.0 c.requires.digits.1 in
    omega (arith, n.0)

pub from_padded_bcd-requires-clause-packed : goal.from_padded_bcd-requires-clause-packed
from_padded_bcd-requires-clause-packed g c =
    (short_value c.args.whole c.args.fraction c.args.number (omega arith) (omega arith) c.requires.at_most
    c.requires.digits.0 c.requires.digits.1 (record { magnitude = _; hi = _; lo = _ }) refl refl refl).packed

pub from_padded_bcd-requires-clause-padded : goal.from_padded_bcd-requires-clause-padded
from_padded_bcd-requires-clause-padded g c =
    short_zeros c.args.whole c.args.fraction c.args.number (omega arith) (omega arith) c.requires.at_most
    c.requires.digits.0 c.requires.digits.1

pub returns-in_err-digits-clause-succeeds : goal.returns-in_err-digits-clause-succeeds
returns-in_err-digits-clause-succeeds g c = λ ds bcd few.
    let value =
    short_value c.args.whole c.args.fraction c.args.number (omega arith) (omega arith) c.requires.at_most ds bcd
    (record { magnitude = _; hi = _; lo = _ }) refl refl refl in
    absurd (omega (
      arith,
      few,
      wide_allocates _ _ _ g.D.DigitStore.L _ value
          (λ fits. let k = c.in_err-digits.ensures.succeeds fits in absurd (cc)),
    ))

pub invariant_of-result-2 : goal.invariant_of-result-2
invariant_of-result-2 g c =
    rw c.in_ok-digits.ensures.ok
    (short_value c.args.whole c.args.fraction c.args.number (omega arith) (omega arith) c.requires.at_most
    c.requires.digits.0 c.requires.digits.1
    (record {
      magnitude = to_z w16 (of_z w16 c.to_magnitude-magnitude.result);
      hi = to_z w16 (of_z w16 c.to_magnitude-hi.result);
      lo = to_z w16 (of_z w16 c.to_magnitude-lo.result);
    })
    (omega (arith, ints)) (omega (arith, ints, clamps)) (omega (arith, ints))).stored

pub returns-clause-value : goal.returns-clause-value
returns-clause-value g c = λ ds bcd.
    rw c.in_ok-digits.ensures.ok
    (sym (ok_is (short_value c.args.whole c.args.fraction c.args.number (omega arith) (omega arith) c.requires.at_most
    ds bcd
    (record {
      magnitude = to_z w16 (of_z w16 c.to_magnitude-magnitude.result);
      hi = to_z w16 (of_z w16 c.to_magnitude-hi.result);
      lo = to_z w16 (of_z w16 c.to_magnitude-lo.result);
    })
    (omega (arith, ints)) (omega (arith, ints, clamps)) (omega (arith, ints))).value))
