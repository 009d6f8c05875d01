use Rattle.std.proofs.{Common.arith, lemmas.Int.{ints, clamps}}
use Rattle.decimal_unsigned.proofs.decimal.round.highest_after.Goals as goal

pub returns-else-position-hi : goal.returns-else-position-hi
returns-else-position-hi c = omega (arith, ints, clamps, c.max-else-position-hi.ensures)
