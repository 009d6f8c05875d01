use Rattle.std.proofs.{Common.{◌≡◌, length, ap, ◌∙◌, arith, rules, w16}, lemmas.{Bool.cases_lt, Grind.common_steps, Int.{ints, to_z-of_z}}}
use Rattle.std.specs.Int.RustNames.{FitsSigned}
use Rattle.decimal_digits.proofs.lemmas.{digits.DigitLists.ten_pos, ops.Offsets.offset_is, rounding.{NumberAt.number_of-none, Remainders.unit_pos, RoundingLaws.rounded_number-zero, SplitAtPosition.{rounded_split, represents_none, digit_rounding_fails}}}
use Rattle.decimal_digits.specs.{Digits.number_of, Number.{offset, weight}, Remainders.leading, Rounding.{step_of, unit_at, rounded_number, DigitRoundingFails}}
use Rattle.decimal_digits.proofs.rounding.at_position.round.Goals as goal

pub returns-then-len-eq0-clause-ok : goal.returns-then-len-eq0-clause-ok
returns-then-len-eq0-clause-ok g c =
    let ds = g.D.DigitStore.digits c.args.counted.now.list.now in
    let none : length ds ≡ 0 = omega arith in
    let u = unit_at c.args.increment c.args.position in
    represents_none ds _ none
    (ap (rounded_number c.args.mode u) (number_of-none ds c.args.magnitude none)
    ∙ rounded_number-zero c.args.mode u (unit_pos c.args.increment c.args.position))

pub round_leading-requires-clause-fits : goal.round_leading-requires-clause-fits
round_leading-requires-clause-fits g c = grind (arith, to_z-of_z, cases_lt, ints, offset_is, common_steps)

pub returns-in_err-places-clause-fails_with : goal.returns-in_err-places-clause-fails_with
returns-in_err-places-clause-fails_with g c =
    let m = c.ranges.magnitude in let p = c.ranges.position in
    let ds = g.D.DigitStore.digits c.args.counted.now.list.now in
    let keep = c.split_at_position-keep.result.0 in let remainder = c.split_at_position-keep.result.1 in
    let e = c.in_err-places.field-0.0 in
    let k : DigitRoundingFails e c.args.increment (length ds)
    (rounded_number c.args.mode (unit_at c.args.increment c.args.position) (number_of ds c.args.magnitude))
    g.D.DigitStore.L =
    digit_rounding_fails e c.args.mode c.args.increment g.D.DigitStore.L c.max_places_above-max_places.result keep ds
    remainder (number_of ds c.args.magnitude) c.args.position (omega (arith, ints))
    (simp to_z-of_z at c.max_places_above-max_places.ensures)
    (simp to_z-of_z at c.split_at_position-keep.ensures.below_limit)
    (simp to_z-of_z at c.split_at_position-keep.ensures.splits_as)
    (rw c.split_at_position-keep.ensures.reads.0 at c.in_err-places.ensures.fails_with) in
    search (rules, k)

pub returns-clause-ok : goal.returns-clause-ok
returns-clause-ok g c =
    let m = c.ranges.magnitude in let p = c.ranges.position in
    let splits_as = simp to_z-of_z at c.split_at_position-keep.ensures.splits_as in
    let fits : FitsSigned w16 c.magnitude_after.result = search rules in
    let represents = simp to_z-of_z at c.magnitude_after.ensures.represents in
    let ds = g.D.DigitStore.digits c.args.counted.now.list.now in
    let rounds = rw c.split_at_position-keep.ensures.reads.0 at c.in_ok-places.ensures.value in
    let e = rounded_split c.args.mode (step_of c.args.increment) c.split_at_position-keep.result.1
    (number_of ds c.args.magnitude) (weight c.args.position) (leading c.split_at_position-keep.result.0 ds) _
    (ten_pos (offset c.args.position)) splits_as rounds in
    simp to_z-of_z (rw e represents)
