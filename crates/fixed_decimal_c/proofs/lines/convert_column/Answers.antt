use Rattle.std.proofs.Common.{inr, refl}
use Rattle.fixed_decimal_c.proofs.lines.convert_column.Goals as goal

pub returns : goal.returns
returns c =
    let fails = rw c.in-Err.is at c.decode-decoded.ensures.err in
    inr (c.in-Err.error, c.encode_column.ensures, fails, refl)
