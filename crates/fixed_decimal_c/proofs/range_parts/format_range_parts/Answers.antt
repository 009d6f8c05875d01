use Rattle.std.proofs.Common.{Err, inl, inr, refl}
use Rattle.fixed_decimal_c.specs.{declared.error.FdError.TheVariants.Formatter, Parts.no_counts}
use Rattle.fixed_decimal_c.proofs.range_parts.format_range_parts.Goals as goal

pub returns-in-Some : goal.returns-in-Some
returns-in-Some c =
    let (counts, answer) = c.format_texts-answer.result in (
      counts,
      answer,
      c.encode_parted.ensures,
      inl (c.in-Some.formatter, c.in-Some.texts, c.in-Some.ensures.some, c.format_texts-answer.ensures),
    )

pub returns-in-None : goal.returns-in-None
returns-in-None c = (
  no_counts,
  Err Formatter,
  c.encode_parted-in-None.ensures,
  inr (Formatter, refl, (refl, c.in-None.ensures.none), refl, refl, refl),
)
