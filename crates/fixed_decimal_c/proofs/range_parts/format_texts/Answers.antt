use Rattle.std.proofs.Common.{inl, inr, refl}
use Rattle.fixed_decimal_c.proofs.range_parts.format_texts.Goals as goal

pub returns-in-Ok : goal.returns-in-Ok
returns-in-Ok c =
    let (start, end) = c.in-Ok.ensures.ok in
    inl (c.in-Ok.start, c.in-Ok.end, start, end, c.write_range_parts.ensures)

pub returns-in-Err : goal.returns-in-Err
returns-in-Err c = inr (c.in-Err.error, refl, c.in-Err.ensures.err, refl, refl, refl)
