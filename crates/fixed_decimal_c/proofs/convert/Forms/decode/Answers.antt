use Rattle.std.proofs.Common.{inl}
use Rattle.fixed_decimal_c.proofs.convert.Forms.decode.Goals as goal

pub returns-in-Err-clause-err : goal.returns-in-Err-clause-err
returns-in-Err-clause-err c = inl c.in-Err.ensures.err
