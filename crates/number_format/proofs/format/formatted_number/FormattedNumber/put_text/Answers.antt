use Rattle.std.proofs.{Common.{◌≡◌, ℕ, List, ◌++◌, ◌∙◌, ap}, lemmas.Result.on_ok_weaker}
use Rattle.number_format.specs.FormattedNumbers.{formatted_number_text, inner_text}
use Rattle.number_format.proofs.lemmas.format.PieceTexts.{text-of_bare}
use Rattle.number_format.proofs.format.formatted_number.FormattedNumber.put_text.Goals as goal

-- a text that is another one, after others
other : (b text same x : List ℕ) → text ≡ same → x ≡ b ++ text → x ≡ b ++ same
other b text same x e h = h ∙ ap (λ l. b ++ l) e

pub returns : goal.returns
returns c =
    let n = c.args.self.now in
    on_ok_weaker c.put_around.result
    (other c.args.block.now.0 (inner_text n) (formatted_number_text n) _
    (text-of_bare n (c.has_outer.ensures c.if-has_outer.false))) c.put_around.ensures
