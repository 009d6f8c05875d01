use Rattle.std.proofs.lemmas.Result.{on_ok_weaker}
use Rattle.number_format.specs.{FormattedNumbers.{inner_text_if, formatted_number_text}, TextParts.parts_text}
use Rattle.number_format.proofs.lemmas.format.{Appended.three_appended, PieceTexts.text-of_outer}
use Rattle.number_format.proofs.format.formatted_number.FormattedNumber.put_with_outer.Goals as goal

pub returns : goal.returns
returns c =
    let n = c.args.self.now in
    let a = c.outer_around-outer.result in
    on_ok_weaker c.push_parts-2.result
    (three_appended c.args.block.now.0 (parts_text a.before) (inner_text_if n a.has_number) (parts_text a.after)
    (formatted_number_text n) _ _ _ c.in_ok-push_parts.ensures c.in_ok-put_around_if.ensures
    (text-of_outer n a c.outer_around-outer.ensures))
    c.push_parts-2.ensures
