use Rattle.std.proofs.{Common.{arith, ap, ◌≡◌, ◌-◌, take, drop, length}, lemmas.{Grind.common_steps, Int.Digits.{length-digits_of-le, number_digits_of}, Int.{ints, clamps}}}
use Rattle.std.specs.Int.Digits.{digits_of}
use Rattle.decimal_unsigned.proofs.{lemmas.from_bcd.Integers.{UpToLast, digits_at_end, digits_of-below, digits_of-front, whole_stored, whole_value, whole_size}, decimal.UnsignedOver.from_integer.Goals.After-trimmed_len}
use Rattle.decimal_unsigned.proofs.decimal.UnsignedOver.from_integer.Goals as goal

digits_are : (g : _) (c : After-trimmed_len g)
    → take (39 - c.write_integer_digits-start.result)
    (drop c.write_integer_digits-start.result c.write_integer_digits-start.new.buffer)
    ≡ digits_of 10 (g.T.UnsignedInteger.number c.args.integer)
digits_are g c =
    let w = c.write_integer_digits-start in
    digits_at_end w.new.buffer w.result (g.T.UnsignedInteger.number c.args.integer) w.ensures.digits (omega arith)

-- the digits end where `trimmed_len` found
up_to_last : (g : _) (c : After-trimmed_len g)
    → UpToLast (digits_of 10 (g.T.UnsignedInteger.number c.args.integer)) c.trimmed_len.result
up_to_last g c =
    let n = g.T.UnsignedInteger.number c.args.integer in
    let t = rw (digits_are g c) at c.trimmed_len.ensures in
    record {
      digits = digits_of-below n;
      front = digits_of-front n;
      few = length-digits_of-le 10 39 n (omega arith) (omega arith);
      within = t.within;
      zeros = t.zeros;
      found = t.found;
    }

pub from_digits-requires : goal.from_digits-requires
from_digits-requires g c = grind (arith, digits_are, digits_of-below, common_steps)

pub returns-in_err-nonzero-clause-succeeds : goal.returns-in_err-nonzero-clause-succeeds
returns-in_err-nonzero-clause-succeeds g c h =
    grind (arith, number_digits_of, whole_size, up_to_last, digits_are, common_steps)

pub invariant_of-result : goal.invariant_of-result
invariant_of-result g c =
    let b = (goal.at.invariant_of-result g c).After-trimmed_len in
    rw (c.in_ok-nonzero.ensures.ok, digits_are g b)
    (whole_stored (up_to_last g b) _
    (omega (arith, ints, clamps, ap length (digits_are g b), (up_to_last g b).few)))

pub returns-clause-value : goal.returns-clause-value
returns-clause-value g c =
    grind (arith, digits_are, number_digits_of, whole_value, up_to_last, ints, clamps, common_steps)
