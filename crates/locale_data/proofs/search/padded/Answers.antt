use mir.Syntax.{w8}
use mir.Val.{Fits}
use Rattle.std.proofs.{Common.{ℕ, ◌+◌, ◌<◌, List, set, take, get_or, ap, subst, sym, ◌∙◌, arith}, lemmas.List.take_all}
use Rattle.locale_data.specs.{Tag.compared, SortedRows.IsPadded}
use Rattle.locale_data.proofs.lemmas.search.PrefixKeys.{padded_none, padded_more}
use Rattle.locale_data.proofs.search.padded.Goals as goal

are_bytes_of : (tag : List ℕ) → ((i : ℕ) → Fits w8 (get_or tag i 0)) → (i : ℕ) → get_or tag i 0 < 256
are_bytes_of tag fit i = let h = fit i in omega arith

pub loop-index-init : goal.loop-index-init
loop-index-init c = padded_none c.args.name.now (are_bytes_of c.args.name.now c.type_inv.name)

pub loop-index-preserved : goal.loop-index-preserved
loop-index-preserved c =
    let name = c.args.name.now in
    let index = c.loop-index.index in
    subst (λ p. IsPadded p (compared (take (index + 1) name)))
    (sym (c.set_byte.ensures ∙ ap (set c.loop-index.padded index) c.tag_byte.ensures))
    (padded_more name (are_bytes_of name c.type_inv.name) c.loop-index.padded index c.loop-index-test.true
    c.loop-index.invariant)

pub returns : goal.returns
returns c =
    let name = c.args.name.now in
    subst (λ t. IsPadded c.loop-index.padded (compared t)) (take_all c.loop-index.index name (omega arith))
    c.loop-index.invariant
