use Rattle.std.proofs.lemmas.Result.{on_ok_weaker}
use Rattle.number_format.specs.{FormattedNumbers.number_text, FormattedRanges.numbers_text, TextParts.parts_text}
use Rattle.number_format.proofs.lemmas.{format.Appended.three_appended, range.Segments.text-of_approximate}
use Rattle.number_format.proofs.range.formatted_range.FormattedRange.put_approximate.Goals as goal

pub returns : goal.returns
returns c =
    let t = c.args.self.now in
    let shown = c.approximate_affixes-affixes.result in
    on_ok_weaker c.push_parts-2.result
    (three_appended c.args.block.now.0 (parts_text shown.prefix) (number_text t.start) (parts_text shown.suffix)
    (numbers_text t) _ _ _ c.in_ok-push_parts.ensures c.in_ok-put_digits.ensures
    (text-of_approximate t shown c.approximate_affixes-affixes.ensures c.requires c.if-not-affixes.false))
    c.push_parts-2.ensures
