use Rattle.std.proofs.{Common.{◌++◌, refl, sym, ◌∙◌, ap}, lemmas.Result.on_ok_weaker}
use Rattle.number_format.specs.{declared.range.formatted_range.RangeSegment.TheVariants.{Prefix, Suffix}, FormattedNumbers.outer_of, FormattedRanges.{formatted_range_text, inner_range_pieces, numbers_text}, TextParts.{parts_text, pieces_text}}
use Rattle.number_format.proofs.lemmas.{format.{Appended.five_appended, PieceTexts.text-of}, range.Segments.text-of_outer_range}
use Rattle.number_format.proofs.range.formatted_range.FormattedRange.put_with_outer.Goals as goal

pub returns : goal.returns
returns c =
    let t = c.args.self.now in
    let u = outer_of t.start in
    let shown = c.outer_around-outer.result in
    let is = c.outer_around-outer.ensures in
    let before = sym (text-of shown.kind (parts_text shown.before)) ∙ ap pieces_text is.prefix in
    let after = sym (text-of shown.kind (parts_text shown.after)) ∙ ap pieces_text is.suffix in
    let prefix = pieces_text (inner_range_pieces t Prefix) in
    let suffix = pieces_text (inner_range_pieces t Suffix) in
    let whole = (λ i. prefix ++ (before i ++ (numbers_text t ++ (suffix ++ after i))))
    ∙ text-of_outer_range t u refl (sym is.has_number ∙ c.if-not-outer.false) in
    on_ok_weaker c.push_parts-2.result
    (five_appended c.args.block.now.0 prefix (parts_text shown.before) (numbers_text t) suffix (parts_text shown.after)
    (formatted_range_text t) _ _ _ _ _ c.in_ok-put_prefix.ensures c.in_ok-push_parts.ensures
    c.in_ok-put_numbers.ensures c.in_ok-put_suffix.ensures whole)
    c.push_parts-2.ensures
