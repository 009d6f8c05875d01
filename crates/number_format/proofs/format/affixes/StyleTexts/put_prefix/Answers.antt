use Rattle.std.proofs.{Common.{◌∙◌, ◌++◌, ◌&&◌, ap}, lemmas.Result.on_ok_weaker}
use Rattle.locale_data.specs.declared.tables.rows.patterns.AffixPair.{AffixPair}
use Rattle.number_format.specs.{NumberStyles.ends_with_currency, PatternTexts.{affix_pieces, pattern_pieces, space_if}, TextParts.pieces_text}
use Rattle.number_format.proofs.lemmas.format.PieceTexts.{then_put}
use Rattle.number_format.proofs.format.affixes.StyleTexts.put_prefix.Goals as goal

pub returns : goal.returns
returns c =
    let style = c.args.self.now in
    let pieces = affix_pieces (pattern_pieces style) in
    let b = c.args.block.now.0 in
    let prefix = c.affixes.result.prefix in
    on_ok_weaker c.put_part.result
    (λ h. then_put (pieces prefix) _ (space_if (ends_with_currency prefix && style.currency.space_after)) b _ _
    c.in_ok-put_affix.ensures h (c.space_if.ensures ∙ ap space_if c.needs_space_after.ensures)
    ∙ ap (λ (a : AffixPair). b ++ pieces_text (pieces a.prefix
    ++ space_if (ends_with_currency a.prefix && style.currency.space_after))) c.affixes.ensures)
    c.put_part.ensures
