use Rattle.std.proofs.Common.{Ok, Err, refl, ap}
use Rattle.cli.proofs.lines.rejection.filter_line.Goals as goal

pub returns-in-Ok-clause-filtered : goal.returns-in-Ok-clause-filtered
returns-in-Ok-clause-filtered g c =
    let (has_fields, (written, is, put)) = c.in-Ok.ensures.printed in
    (Ok written, rw has_fields (Ok written, is, refl), put, refl, refl, λ _. refl)

pub returns-in-Err-Output-clause-filtered : goal.returns-in-Err-Output-clause-filtered
returns-in-Err-Output-clause-filtered g c =
    let (has_fields, (written, is, put)) = c.in-Err-Output.ensures.prefix (ap Err c.in-Err-Output.field-0-is) in
    (Ok written, rw has_fields (Ok written, is, refl), put, refl, λ _. refl)
