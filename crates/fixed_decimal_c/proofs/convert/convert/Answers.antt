use Rattle.std.proofs.Common.{inr, refl}
use Rattle.fixed_decimal_c.proofs.convert.convert.Goals as goal

pub returns : goal.returns
returns c = inr (c.in-Err.error, refl, rw c.in-Err.is at c.decode-decoded.ensures.err, refl)
