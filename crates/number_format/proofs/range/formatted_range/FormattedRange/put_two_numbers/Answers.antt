use Rattle.std.proofs.{Common.{◌++◌, sym, ◌∙◌, ap}, lemmas.Result.on_ok_weaker}
use Rattle.number_format.specs.{FormattedRanges.{numbers_text, one_text}, RangeText.separator_pieces, TextParts.pieces_text}
use Rattle.number_format.proofs.lemmas.{format.Appended.three_appended, range.Segments.text-of_two_numbers}
use Rattle.number_format.proofs.range.formatted_range.FormattedRange.put_two_numbers.Goals as goal

pub returns : goal.returns
returns c =
    let t = c.args.self.now in
    let before = c.put_number.new.block.0 in
    on_ok_weaker c.put_number-2.result
    (three_appended c.args.block.now.0 (one_text t.form t.start)
    (pieces_text (separator_pieces t.format.separator t.spaced)) (one_text t.form t.end) (numbers_text t) _ _ _
    c.in_ok-put_number.ensures
    (c.in_ok-push_parts.ensures ∙ ap (λ l. before ++ l) c.separator_parts-separator.ensures.text)
    (text-of_two_numbers t c.requires (sym c.has_number.ensures ∙ c.if-not-has_number.false)))
    c.put_number-2.ensures
