use Rattle.std.proofs.Common.{Ok, Err, refl}
use Rattle.fixed_decimal_c.specs.declared.error.FdError.TheVariants.{Formatter}
use Rattle.fixed_decimal_c.proofs.read.read_number.Goals as goal

pub returns-in-Some : goal.returns-in-Some
returns-in-Some c = (Ok c.in-Some.formatter, c.in-Some.ensures.some, c.read_text.ensures)

pub returns-in-None : goal.returns-in-None
returns-in-None c = (Err Formatter, (refl, c.in-None.ensures.none), (refl, refl))
