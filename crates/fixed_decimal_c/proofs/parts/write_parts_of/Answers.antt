use Rattle.std.proofs.Common.{Some, inr, refl}
use Rattle.conversions.specs.declared.locale_formatter.LocaleFormatter.TheVariants.{Skeleton}
use Rattle.fixed_decimal_c.specs.Formats.{FormatFails}
use Rattle.fixed_decimal_c.proofs.lemmas.formatter.FormatErrors.{format_fails}
use Rattle.fixed_decimal_c.proofs.parts.write_parts_of.Goals as goal

pub returns-in-Err : goal.returns-in-Err
returns-in-Err c =
    let f = c.args.formatter.now in
    let why : FormatFails c.error_of_format.result (Some (Skeleton f)) c.args.value 0 =
    rw c.error_of_format.ensures
    (format_fails f c.args.value 0 c.in-Err.failed.error c.in-Err.ensures.limit c.in-Err.ensures.memory) in
    inr (c.error_of_format.result, refl, why, refl, refl, refl)
