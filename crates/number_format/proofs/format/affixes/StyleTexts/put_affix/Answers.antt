use Rattle.std.proofs.{Common.{◌≡◌, List, ◌++◌, ◌∙◌, ap, refl, append_assoc}, lemmas.Result.on_ok_weaker}
use Rattle.number_format.specs.{PatternTexts.pattern_pieces, TextParts.{Piece, pieces_text}}
use Rattle.number_format.proofs.lemmas.format.PieceTexts.{then_put}
use Rattle.number_format.proofs.format.affixes.StyleTexts.put_affix.Goals as goal

regroup : (p q r s : List Piece) → ((p ++ q) ++ r) ++ s ≡ p ++ (q ++ (r ++ s))
regroup p q r s = simp append_assoc

pub returns : goal.returns
returns c =
    let of = pattern_pieces c.args.self.now in
    let a = c.args.affix in
    let b = c.args.block.now.0 in
    let p = of a.first in
    let q = of a.second in
    let r = of a.third in
    let s = of a.fourth in
    let two = then_put p q q b _ _ c.in_ok-put_piece.ensures c.in_ok-put_piece-2.ensures refl in
    let three = then_put (p ++ q) r r b _ _ two c.in_ok-put_piece-3.ensures refl in
    on_ok_weaker c.put_piece-4.result
    (λ h. then_put ((p ++ q) ++ r) s s b _ _ three h refl ∙ ap (λ ps. b ++ pieces_text ps) (regroup p q r s))
    c.put_piece-4.ensures
