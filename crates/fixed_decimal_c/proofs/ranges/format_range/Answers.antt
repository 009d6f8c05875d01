use Rattle.std.proofs.Common.{inl, inr, refl}
use Rattle.fixed_decimal_c.specs.declared.error.FdError.TheVariants.{Formatter}
use Rattle.fixed_decimal_c.proofs.ranges.format_range.Goals as goal

pub returns-in-Some : goal.returns-in-Some
returns-in-Some c = inl (c.in-Some.formatter, c.in-Some.texts, c.in-Some.ensures.some, c.format_texts.ensures)

pub returns-in-None : goal.returns-in-None
returns-in-None c = inr (Formatter, refl, (refl, c.in-None.ensures.none), refl)
