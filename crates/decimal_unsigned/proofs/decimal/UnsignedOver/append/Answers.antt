use Rattle.std.proofs.{Common.{◌≡◌, w16, to_z, of_z, arith, ◌+ℤ◌, ◌+◌, ◌-◌, pos}, lemmas.{Bool.false≢true, Grind.common_steps, Int.{ints, clamps}}}
use Rattle.std.specs.Int.{int_max, int_min}
use Rattle.decimal_digits.proofs.lemmas.ops.Offsets.{gap_is}
use Rattle.decimal_digits.specs.Number.{first, last}
use Rattle.decimal_unsigned.proofs.{lemmas.{decimal.Values.{hi_kept, lo_kept, counted}, shift.Concatenations.{append_size, append_stored, append_value}}, decimal.UnsignedOver.append.Goals.After-count_between}
use Rattle.decimal_unsigned.proofs.decimal.UnsignedOver.append.Goals as goal

-- the zeros are between the last digit of the first number and the first digit of the second
apart : (g : _) (c : After-count_between g)
    → last c.args.self.now.number ≡ first c.args.other.now.number +ℤ pos (c.count_between.result - 2 + 1)
apart g c =
    let start = c.nonzero_magnitude_start-start in
    let end = c.nonzero_magnitude_end in
    let count = counted c.count_between.ensures start.ensures.value end.ensures.value start.type_inv end.type_inv in
    omega (arith, ints, gap_is, count, c.requires.disjoint)

pub returns-in_err-append-clause-succeeds : goal.returns-in_err-append-clause-succeeds
returns-in_err-append-clause-succeeds g c h =
    let s = append_size c.self.invariant c.other.invariant c.self.view_is c.other.view_is _ c.requires.first_is_nonzero
    c.requires.second_is_nonzero (apart g (goal.at.returns-in_err-append-clause-succeeds g c).After-count_between) in
    absurd (false≢true (c.in_err-append.ensures.succeeds (omega (arith, s, h))))

-- the range of both values
hi_is : (g : _) (c : goal.After-self-2-1 g)
    → to_z w16 (of_z w16 c.max-hi.result) ≡ int_max c.self.inside.hi c.other.inside.hi
hi_is g c = omega (arith, ints, clamps, hi_kept c.self.invariant, hi_kept c.other.invariant)

lo_is : (g : _) (c : goal.After-self-2-1 g)
    → to_z w16 (of_z w16 c.min-lo.result) ≡ int_min c.self.inside.lo c.other.inside.lo
lo_is g c = omega (arith, ints, clamps, lo_kept c.self.invariant, lo_kept c.other.invariant)

pub invariant_of-self-2 : goal.invariant_of-self-2
invariant_of-self-2 g c =
    rw (c.in_ok-append.ensures.ok, hi_is g c, lo_is g c)
    (append_stored c.self.invariant c.other.invariant c.self.view_is c.other.view_is _ c.requires.first_is_nonzero
    c.requires.second_is_nonzero (apart g (goal.at.invariant_of-self-2 g c).After-count_between))

pub returns-clause-ok : goal.returns-clause-ok
returns-clause-ok g c =
    rw (c.in_ok-append.ensures.ok, hi_is g c, lo_is g c)
    (append_value c.self.invariant c.other.invariant c.self.view_is c.other.view_is _ c.requires.first_is_nonzero
    c.requires.second_is_nonzero (apart g (goal.at.returns-clause-ok g c).After-count_between))

pub count_between-requires : goal.count_between-requires
count_between-requires g c = grind (arith, common_steps)

pub overflow_sub-zeros : goal.overflow_sub-zeros
overflow_sub-zeros g c = grind (arith, common_steps)
