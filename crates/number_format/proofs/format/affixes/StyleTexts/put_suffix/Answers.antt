use Rattle.std.proofs.{Common.{◌∙◌, ◌++◌, ◌&&◌, ap, refl}, lemmas.Result.on_ok_weaker}
use Rattle.locale_data.specs.declared.tables.rows.patterns.AffixPair.{AffixPair}
use Rattle.number_format.specs.{NumberStyles.begins_with_currency, PatternTexts.{affix_pieces, pattern_pieces, space_if}, TextParts.pieces_text}
use Rattle.number_format.proofs.lemmas.format.PieceTexts.{then_put}
use Rattle.number_format.proofs.format.affixes.StyleTexts.put_suffix.Goals as goal

pub returns : goal.returns
returns c =
    let style = c.args.self.now in
    let pieces = affix_pieces (pattern_pieces style) in
    let b = c.args.block.now.0 in
    let suffix = c.affixes.result.suffix in
    let space = space_if (begins_with_currency suffix && style.currency.space_before) in
    on_ok_weaker c.put_affix.result
    (λ h. then_put space (pieces suffix) (pieces suffix) b _ _
    (c.in_ok-put_part.ensures
    ∙ ap (λ ps. b ++ pieces_text ps) (c.space_if.ensures ∙ ap space_if c.needs_space_before.ensures)) h refl
    ∙ ap (λ (a : AffixPair). b ++ pieces_text (space_if (begins_with_currency a.suffix && style.currency.space_before)
    ++ pieces a.suffix)) c.affixes.ensures)
    c.put_affix.ensures
