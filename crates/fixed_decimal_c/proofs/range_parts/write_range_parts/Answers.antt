use Rattle.std.proofs.Common.{inl, inr, refl}
use Rattle.number_format.specs.FormattedRanges.{shown_range}
use Rattle.fixed_decimal_c.specs.Ranges.{RangeFails}
use Rattle.fixed_decimal_c.proofs.range_parts.write_range_parts.Goals as goal

pub returns-in-Ok : goal.returns-in-Ok
returns-in-Ok c =
    inl (
      shown_range c.in-Ok.range,
      c.in-Ok.ensures.range,
      c.write_parts.ensures.counts,
      c.write_parts.ensures.written,
    )

pub returns-in-Err : goal.returns-in-Err
returns-in-Err c =
    let failed = c.in-Err.failed in
    let fails : RangeFails c.args.formatter.now c.args.start c.args.end c.error_of_range.result =
    (failed.at_end, failed.error, c.in-Err.ensures.fails, c.error_of_range.ensures) in
    inr (c.error_of_range.result, refl, fails, refl, refl, refl)
