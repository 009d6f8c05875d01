use Rattle.std.proofs.lemmas.Result.{on_ok_weaker}
use Rattle.number_format.specs.{declared.range.formatted_range.RangeSegment.TheVariants.{Prefix, Suffix}, FormattedRanges.{formatted_range_text, inner_range_pieces, numbers_text}, TextParts.pieces_text}
use Rattle.number_format.proofs.lemmas.{format.Appended.three_appended, range.Segments.text-of_bare_range}
use Rattle.number_format.proofs.range.formatted_range.FormattedRange.put_text.Goals as goal

pub returns : goal.returns
returns c =
    let t = c.args.self.now in
    on_ok_weaker c.put_suffix.result
    (three_appended c.args.block.now.0 (pieces_text (inner_range_pieces t Prefix)) (numbers_text t)
    (pieces_text (inner_range_pieces t Suffix)) (formatted_range_text t) _ _ _ c.in_ok-put_prefix.ensures
    c.in_ok-put_numbers.ensures (text-of_bare_range t (c.has_outer.ensures c.if-has_outer.false)))
    c.put_suffix.ensures
