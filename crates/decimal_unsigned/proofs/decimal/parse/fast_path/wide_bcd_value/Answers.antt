use Rattle.std.proofs.{Common.{arith, refl}, lemmas.Int.ints}
use Rattle.std.specs.Int.{w128}
use Rattle.decimal_digits.proofs.lemmas.digits.LeadingBytes.{wide_bytes_encode}
use Rattle.decimal_unsigned.proofs.lemmas.parse.BcdValues.{number_fits, plain_bcd, plain_read, bcd_sizes, bcd_value}
use Rattle.decimal_unsigned.proofs.decimal.parse.fast_path.wide_bcd_value.Goals as goal

pub overflow_sub-len : goal.overflow_sub-len
overflow_sub-len c =
    let text = c.args.text.now in
    let p = c.in_ok-plain.plain in
    let few = c.in_ok-plain.ensures.few in
    let n =
    bcd_sizes p.whole p.fraction p.number _ (plain_bcd text p c.in_ok-plain.ensures.plain) (omega (arith, few)) w128 32
    refl (number_fits text p c.in_ok-plain.ensures.plain) (omega arith) in
    omega (arith, n.0)

pub returns-clause-value : goal.returns-clause-value
returns-clause-value c =
    let text = c.args.text.now in
    let p = c.in_ok-plain.plain in
    let few = c.in_ok-plain.ensures.few in
    rw (plain_read text p c.in_ok-plain.ensures.plain)
    (bcd_value p.whole p.fraction p.number _ (plain_bcd text p c.in_ok-plain.ensures.plain) (omega (arith, few)) w128 32
    refl (number_fits text p c.in_ok-plain.ensures.plain) (omega arith) _ _ _ _ refl refl
    (omega (arith, ints, c.to_bounds.ensures.magnitude)) (omega (arith, ints, c.to_bounds.ensures.hi))
    (omega (arith, ints, c.to_bounds.ensures.lo))
    (λ ds l few below e. wide_bytes_encode ds _ _ l few below e))

pub to_bounds-requires : goal.to_bounds-requires
to_bounds-requires c =
    let few = c.in_ok-plain.ensures.few in
    record {
      magnitude_in = (omega (arith, ints, few), omega (arith, ints, few));
      hi_in = (omega (arith, ints, few), omega (arith, ints, few));
      lo_in = (omega (arith, ints, few), omega (arith, ints, few));
    }

pub subtract_counts-requires-clause-first_in : goal.subtract_counts-requires-clause-first_in
subtract_counts-requires-clause-first_in c = omega arith

pub returns-clause-many : goal.returns-clause-many
returns-clause-many c = omega arith
