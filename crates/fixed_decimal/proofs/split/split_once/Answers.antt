use Rattle.std.proofs.{Common.{◌≡◌, ◌+◌, ◌-◌, ◌∷◌, ◌++◌, length, take, drop, ◌∙◌, ap, arith}, lemmas.Grind.common_steps}
use Rattle.fixed_decimal.proofs.lemmas.integer.Splitting.{split_none, split_at}
use Rattle.fixed_decimal.specs.Split.{split_once}
use Rattle.fixed_decimal.proofs.split.split_once.Goals as goal

pub returns-then-byte-letter : goal.returns-then-byte-letter
returns-then-byte-letter c =
    let text = c.args.text.now in
    let after = c.loop-at.at + 1 in
    let is : text ≡ take c.loop-at.at text ++ c.args.letter ∷ take (length text - after) (drop after text) =
    grind (arith, common_steps) in
    ap (split_once c.args.letter) is ∙ split_at c.args.letter _ _ c.loop-at.invariant

pub returns : goal.returns
returns c = split_none c.args.letter _ (grind (arith, common_steps))
