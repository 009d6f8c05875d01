use Rattle.std.proofs.Common.{inl, inr, refl}
use Rattle.number_format.specs.FormattedRanges.{formatted_range_text}
use Rattle.fixed_decimal_c.specs.Ranges.{RangeFails}
use Rattle.fixed_decimal_c.proofs.ranges.write_range.Goals as goal

pub returns-in-Ok : goal.returns-in-Ok
returns-in-Ok c = inl (formatted_range_text c.in-Ok.range, c.in-Ok.ensures.text, c.write_by_block.ensures)

pub returns-in-Err : goal.returns-in-Err
returns-in-Err c =
    let failed = c.in-Err.failed in
    let fails : RangeFails c.args.formatter.now c.args.start c.args.end c.error_of_range.result =
    (failed.at_end, failed.error, c.in-Err.ensures.fails, c.error_of_range.ensures) in
    inr (c.error_of_range.result, refl, fails, refl)
