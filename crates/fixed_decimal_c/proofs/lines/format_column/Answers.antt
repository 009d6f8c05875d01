use Rattle.std.proofs.Common.{Ok, Err, refl}
use Rattle.fixed_decimal_c.specs.declared.error.FdError.TheVariants.{Formatter}
use Rattle.fixed_decimal_c.proofs.lines.format_column.Goals as goal

pub returns-in-Some : goal.returns-in-Some
returns-in-Some c =
    let (done, result) = c.convert_lines-result.result in (
      Ok c.in-Some.formatter,
      c.in-Some.ensures.some,
      (done, result, c.encode_column.ensures, c.convert_lines-result.ensures),
    )

pub returns-in-None : goal.returns-in-None
returns-in-None c = (Err Formatter, (refl, c.in-None.ensures.none), (c.encode_column-in-None.ensures, refl))
