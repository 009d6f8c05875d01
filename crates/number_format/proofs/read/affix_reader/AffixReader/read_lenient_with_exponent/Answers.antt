use Rattle.std.proofs.Common.{refl, Ok, Err}
use Rattle.decimal_unsigned.specs.declared.error.ParseError.{TheVariants.{Syntax, Limit, Memory}}
use Rattle.number_format.proofs.read.affix_reader.AffixReader.read_lenient_with_exponent.Goals as goal

pub returns-in-Ok : goal.returns-in-Ok
returns-in-Ok g c = (Ok c.in-Ok.value, rw c.as_bytes.ensures.value at c.in-Ok.ensures, refl)

pub returns-in-Err-Syntax : goal.returns-in-Err-Syntax
returns-in-Err-Syntax g c = (
  Err Syntax,
  rw (c.as_bytes.ensures.value, c.in-Err-Syntax.field-0-is) at c.in-Err-Syntax.ensures,
  c.read_lenient.ensures,
)

pub returns-in-Err-Limit : goal.returns-in-Err-Limit
returns-in-Err-Limit g c = (
  Err Limit,
  rw (c.as_bytes.ensures.value, c.in-Err-Limit.field-0-is) at c.in-Err-Limit.ensures,
  refl,
)

pub returns-in-Err-Memory : goal.returns-in-Err-Memory
returns-in-Err-Memory g c = (
  Err Memory,
  rw (c.as_bytes.ensures.value, c.in-Err-Memory.field-0-is) at c.in-Err-Memory.ensures,
  refl,
)
