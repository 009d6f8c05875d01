use Rattle.std.proofs.{Common.arith, lemmas.{Grind.common_steps, Int.{ints, to_z-of_z}, List.Elements.recursion_from_All}}
use Rattle.decimal_digits.proofs.lemmas.{ops.Offsets.offset_is, rounding.SplitAtPosition.{splits_above, splits_below}}
use Rattle.decimal_digits.proofs.rounding.at_position.split_at_position.Goals as goal

pub returns-in-Some-clause-splits_as : goal.returns-in-Some-clause-splits_as
returns-in-Some-clause-splits_as g c =
    let m = c.ranges.magnitude in let p = c.ranges.position in
    splits_above c.args.magnitude c.args.position c.in-Some.keep c.remainder_after.result _ (omega (arith, ints))
    (omega (arith, ints)) (recursion_from_All _ _ (g.met.D.DigitStore.are_digits c.args.counted.now.list.now))
    (c.requires.stripped.back c.requires.some) c.requires.fits (simp to_z-of_z at c.in-Some.ensures.some)
    c.remainder_after.ensures.remainder

pub returns-in-Some-clause-below_limit : goal.returns-in-Some-clause-below_limit
returns-in-Some-clause-below_limit g c some = grind (arith, to_z-of_z, ints, offset_is, common_steps)

pub returns-in-None-clause-splits_as : goal.returns-in-None-clause-splits_as
returns-in-None-clause-splits_as g c =
    let m = c.ranges.magnitude in let p = c.ranges.position in
    splits_below c.args.magnitude c.args.position _ (omega (arith, ints))
    (recursion_from_All _ _ (g.met.D.DigitStore.are_digits c.args.counted.now.list.now)) c.requires.some
    (c.requires.stripped.back c.requires.some) c.requires.fits (simp to_z-of_z at c.in-None.ensures.none)
