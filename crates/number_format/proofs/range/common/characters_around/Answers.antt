use Rattle.std.proofs.Common.{◌+◌, sym, ◌∙◌, ap}
use Rattle.number_format.specs.{RangeText.characters, TextParts.pieces_text}
use Rattle.number_format.proofs.lemmas.format.PieceTexts.{text-of_parts}
use Rattle.number_format.proofs.range.common.characters_around.Goals as goal

pub returns : goal.returns
returns c =
    let shown = c.bare_affixes-affixes.result in
    let is = c.bare_affixes-affixes.ensures in
    let before = sym (text-of_parts shown.prefix) ∙ ap pieces_text is.prefix in
    let after = sym (text-of_parts shown.suffix) ∙ ap pieces_text is.suffix in
    (λ i. c.parts_characters.ensures.value i + c.parts_characters-2.ensures.value i)
    ∙ (λ i. characters (before i) + characters (after i))
