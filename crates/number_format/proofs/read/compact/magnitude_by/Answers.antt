use Rattle.std.proofs.{Common.{arith}, lemmas.Int.{ints, clamps}}
use Rattle.number_format.proofs.lemmas.read.CompactTexts.{first_by}
use Rattle.number_format.proofs.read.compact.magnitude_by.Goals as goal

pub returns : goal.returns
returns g c =
    let small = c.requires in
    let power = c.compact_power.ensures in
    let is = first_by c.args.value.now.absolute.number c.args.exponent
    (λ none. let t = c.is_zero.ensures.zero.1 none in absurd (cc (t, c.if-is_zero.false))) in
    omega (arith, ints, clamps, is)
