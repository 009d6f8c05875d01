use Rattle.std.proofs.Common.{Ok, Err, refl}
use Rattle.fixed_decimal_c.specs.{declared.error.FdError.TheVariants.Formatter, Parts.no_counts}
use Rattle.fixed_decimal_c.proofs.parts.format_parts.Goals as goal

pub returns-in-Some : goal.returns-in-Some
returns-in-Some c =
    let (counts, answer) = c.format_text-answer.result in (
      Ok c.in-Some.formatter,
      c.in-Some.ensures.some,
      counts,
      answer,
      c.encode_parted.ensures,
      c.format_text-answer.ensures,
    )

pub returns-in-None : goal.returns-in-None
returns-in-None c = (
  Err Formatter,
  (refl, c.in-None.ensures.none),
  no_counts,
  Err Formatter,
  c.encode_parted-in-None.ensures,
  (Formatter, refl, refl, refl, refl, refl),
)
