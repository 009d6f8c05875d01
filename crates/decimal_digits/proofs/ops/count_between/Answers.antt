use Rattle.std.proofs.{Common.arith, lemmas.Int.ints}
use Rattle.decimal_digits.proofs.lemmas.ops.Offsets.{gap_is}
use Rattle.decimal_digits.proofs.ops.count_between.Goals as goal

pub returns : goal.returns
returns c = omega (arith, ints, gap_is c.args.lo c.args.hi)
