use Rattle.std.proofs.{Common.{◌≡◌, ◌∙◌, ◌+◌, ◌++◌, ◌∷◌, [], false, nat_eq, get_or, take, drop, ap, sym, arith, append_assoc}, lemmas.{Grind.common_steps, List.take_more}}
use Rattle.std.specs.{Prelude.codes, List.starts_with}
use Rattle.locale_data.specs.Tag.{compared, before_text}
use Rattle.locale_data.proofs.lemmas.search.Tags.{before_text-tail}
use Rattle.locale_data.proofs.tag.without_private_use.Goals as goal

pub loop-index-preserved : goal.loop-index-preserved
loop-index-preserved c =
    let i = c.loop-index.index in
    let tag = c.args.tag.now in
    let inside = c.loop-index-test.true in
    let rest = before_text (codes "-x-") (drop (i + 1) tag) in
    let none : starts_with nat_eq (compared (drop i tag)) (codes "-x-") ≡ false = grind (arith, common_steps) in
    c.loop-index.invariant
    ∙ ap (λ l. take i tag ++ l) (before_text-tail (codes "-x-") tag i inside none)
    ∙ sym (append_assoc (take i tag) (get_or tag i 0 ∷ []) rest)
    ∙ ap (λ l. l ++ rest) (sym (take_more tag i 0 inside))
