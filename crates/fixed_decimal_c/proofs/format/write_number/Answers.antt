use Rattle.std.proofs.Common.{Err, Some, inl, inr, refl, ap}
use Rattle.conversions.specs.declared.locale_formatter.LocaleFormatter.TheVariants.{Skeleton}
use Rattle.fixed_decimal_c.specs.Formats.{FormatFails}
use Rattle.fixed_decimal_c.proofs.lemmas.formatter.FormatErrors.{format_fails}
use Rattle.fixed_decimal_c.proofs.format.write_number.Goals as goal

pub returns-in-Err : goal.returns-in-Err
returns-in-Err c =
    let f = c.args.formatter.now in
    let why : FormatFails c.error_of_format.result (Some (Skeleton f)) c.args.value c.args.at =
    rw c.error_of_format.ensures
    (format_fails f c.args.value c.args.at c.in-Err.error (λ e. c.in-Err.ensures.limit (ap Err e))
    (λ e. inl (c.in-Err.ensures.memory (ap Err e)))) in
    inr (c.error_of_format.result, refl, why, refl)
