use Rattle.std.proofs.Common.{sym, ◌∙◌, ap}
use Rattle.std.specs.{Prelude.{◌&&◌}, Str.bytes_eq}
use Rattle.number_format.specs.{RangeText.both_or_neither, TextParts.pieces_text}
use Rattle.number_format.proofs.lemmas.format.PieceTexts.{text-of_parts}
use Rattle.number_format.proofs.range.common.are_equal_texts.Goals as goal

pub returns : goal.returns
returns c =
    let first = c.bare_affixes-first.result in
    let second = c.bare_affixes-second.result in
    let one = c.bare_affixes-first.ensures in
    let two = c.bare_affixes-second.ensures in
    let before = sym (text-of_parts first.prefix) ∙ ap pieces_text one.prefix in
    let other_before = sym (text-of_parts second.prefix) ∙ ap pieces_text two.prefix in
    let after = sym (text-of_parts first.suffix) ∙ ap pieces_text one.suffix in
    let other_after = sym (text-of_parts second.suffix) ∙ ap pieces_text two.suffix in
    c.are_same_affixes.ensures
    ∙ (λ i. bytes_eq (before i) (other_before i)
    && (bytes_eq (after i) (other_after i) && both_or_neither (one.has_number i) (two.has_number i)))
