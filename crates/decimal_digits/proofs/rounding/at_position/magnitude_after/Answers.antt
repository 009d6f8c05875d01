use Rattle.std.proofs.{Common.{◌+◌, ◌*◌, ◌≤◌, length, ap, ◌∙◌, arith, rules, w16, negsuc, ◌≤ℤ◌}, lemmas.{Grind.common_steps, Int.{ints, to_z-of_z}, List.Elements.recursion_from_All}}
use Rattle.std.specs.Int.RustNames.{FitsSigned}
use Rattle.decimal_digits.proofs.lemmas.{ops.Offsets.offset_is, rounding.{NumberAt.number_at-none, SplitAtPosition.{represents, represents_none, number_up}}}
use Rattle.decimal_digits.specs.Number.{offset, weight}
use Rattle.decimal_digits.proofs.rounding.at_position.magnitude_after.Goals as goal

pub returns-then-len-eq0-clause-represents : goal.returns-then-len-eq0-clause-represents
returns-then-len-eq0-clause-represents g c =
    represents_none _ _ (omega arith)
    (ap (λ n. n * weight c.args.position) (number_at-none c.args.places _ (grind arith)) ∙ omega arith)

pub returns-else-len-eq0-clause-represents : goal.returns-else-len-eq0-clause-represents
returns-else-len-eq0-clause-represents g c =
    let fits = c.ranges.position in
    let fits_m : FitsSigned w16 c.highest_of.result = search rules in
    let list = c.args.counted.now.list.now in
    let ds = g.D.DigitStore.digits list in
    let m = c.highest_of.result in
    let p = c.args.position in
    let at = simp to_z-of_z at c.highest_of.ensures in
    let low : negsuc 32767 ≤ℤ m = omega (arith, ints) in
    let within : length ds ≤ offset m + 1 = omega (arith, ints, c.requires.fits, offset_is m, offset_is p) in
    simp to_z-of_z (rw (← (number_up p m c.args.places ds (omega (arith, ints)) low c.requires.fits at))
    (represents m ds low (omega (arith, ints)) (recursion_from_All _ _ (g.met.D.DigitStore.are_digits list)) within
    c.requires.stripped (omega arith)))

pub returns-else-len-eq0-clause-above : goal.returns-else-len-eq0-clause-above
returns-else-len-eq0-clause-above g c some = grind (arith, to_z-of_z, ints, offset_is, common_steps)
