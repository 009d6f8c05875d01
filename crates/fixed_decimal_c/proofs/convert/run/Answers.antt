use Rattle.std.proofs.Common.{arith}
use Rattle.fixed_decimal_c.proofs.convert.run.Goals as goal

pub slice_bounds-calls_in-end : goal.slice_bounds-calls_in-end
slice_bounds-calls_in-end c = omega (arith, c.decode_calls-decoded.ensures.room)
