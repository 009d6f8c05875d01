use Rattle.std.proofs.{Common.{◌≡◌, List, ◌++◌, ◌∙◌, ap, append_assoc}, lemmas.Result.on_ok_weaker}
use Rattle.std.specs.Prelude.{◌&&◌}
use Rattle.locale_data.specs.Compact.{text_of}
use Rattle.number_format.specs.{NumberText.{compact_pieces, currency_if, is_empty, first_sign, last_sign}, PatternTexts.space_if, TextParts.{Piece, part_pieces, pieces_text, pieces_of}}
use Rattle.number_format.proofs.lemmas.format.PieceTexts.{then_put}
use Rattle.number_format.proofs.format.affixes.StyleTexts.put_compact_prefix.Goals as goal

regroup : (p q r s t u : List Piece) → ((((p ++ q) ++ r) ++ s) ++ t) ++ u ≡ p ++ ((q ++ (r ++ (s ++ t))) ++ u)
regroup p q r s t u = simp append_assoc

pub returns : goal.returns
returns c =
    let style = c.args.self.now in
    let affix = c.args.pattern.now.prefix in
    let b = c.args.block.now.0 in
    let p = first_sign style c.args.sign c.args.pattern.now.form in
    let q = compact_pieces affix.before in
    let r = currency_if style affix.has_currency in
    let s = compact_pieces affix.after in
    let t = space_if (affix.has_currency && (is_empty (text_of affix.after) && style.currency.space_after)) in
    let u = last_sign style c.args.sign c.args.pattern.now.form in
    let before : part_pieces c.new.result ≡ q =
    (λ i. pieces_of (c.new.ensures.kind i) ((c.new.ensures.text ∙ c.before_text.ensures.value) i)) in
    let after : part_pieces c.new-2.result ≡ s =
    (λ i. pieces_of (c.new-2.ensures.kind i) ((c.new-2.ensures.text ∙ c.after_text.ensures.value) i)) in
    let one = c.in_ok-put_part.ensures ∙ ap (λ ps. b ++ pieces_text ps) c.first_sign.ensures in
    let two = then_put p _ q b _ _ one c.in_ok-put_part-2.ensures before in
    let three = then_put (p ++ q) _ r b _ _ two c.in_ok-put_part-3.ensures c.currency_if.ensures in
    let four = then_put ((p ++ q) ++ r) _ s b _ _ three c.in_ok-put_part-4.ensures after in
    let five = then_put (((p ++ q) ++ r) ++ s) _ t b _ _ four c.in_ok-put_part-5.ensures
    (c.space_if.ensures ∙ ap space_if c.space_after.ensures) in
    on_ok_weaker c.put_part-6.result
    (λ h. then_put ((((p ++ q) ++ r) ++ s) ++ t) _ u b _ _ five h c.last_sign.ensures
    ∙ ap (λ ps. b ++ pieces_text ps) (regroup p q r s t u)) c.put_part-6.ensures
