use Rattle.std.proofs.{Common.{sym, ◌∙◌}, lemmas.List.length-map}
use Rattle.number_format.specs.{FormattedRanges.shown_range, RangeText.range_pieces}
use Rattle.fixed_decimal_c.specs.{Parts.parts_of, RangeParts.{all_pieces, bounds_of, with_source}}
use Rattle.fixed_decimal_c.proofs.range_parts.count_parts.Goals as goal

pub returns : goal.returns
returns c =
    let p = range_pieces (shown_range c.args.range.now) in
    c.take_range.ensures.count ∙ sym (length-map (parts_of (all_pieces p)) (with_source (bounds_of p)))
