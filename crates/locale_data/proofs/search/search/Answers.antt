use mir.Syntax.{w8}
use mir.Val.{Fits}
use Rattle.std.proofs.{Common.{◌≡◌, ℕ, ◌+◌, ◌<◌, ◌≤◌, List, length, Ok, Err, Some, None, cond, bytes_eq, sym, ap, ◌∙◌, take, get_or, arith, rules}, lemmas.List.Sorted.answers_always}
use Rattle.std.specs.Int.{from_be_bytes, w128}
use Rattle.locale_data.specs.{Rows.{unpadded, row_at}, SortedRows.{IsPadded, key}, Tag.compared}
use Rattle.locale_data.proofs.lemmas.search.{PrefixKeys.{are_bytes, padded_key}, SortedRows.{searched, key_of_found}, Searches.{row_at-then_some, at_most_ok, at_most_err, none_longer}}
use Rattle.locale_data.proofs.search.search.Goals as goal

-- the padded name has the key of the part
is_key : (tag : List ℕ) → ((i : ℕ) → get_or tag i 0 < 256) → (end : ℕ) → end ≤ length tag → (padded : List ℕ)
    → IsPadded padded (compared (take end tag)) → (n : ℕ) → n ≡ from_be_bytes w128 padded
    → n ≡ key (compared (take end tag))
is_key tag bytes end inside padded is n e =
    e ∙ padded_key padded (compared (take end tag)) (are_bytes tag bytes end inside) is

are_bytes_of : (tag : List ℕ) → ((i : ℕ) → Fits w8 (get_or tag i 0)) → (i : ℕ) → get_or tag i 0 < 256
are_bytes_of tag fit i = let h = fit i in omega arith

pub is_named-requires-clause-key : goal.is_named-requires-clause-key
is_named-requires-clause-key g c =
    let name_of = g.R.Row.name in
    let rows = c.args.rows.now in
    let tag = c.args.tag.now in
    let row = c.index-rows-index.result in
    let by_key = c.in-Ok.ensures.position (λ row. from_be_bytes w128 (name_of row))
    (answers_always _ _ _ (λ f a r next called. search rules)) in
    ap (λ t. key (unpadded t)) c.name.ensures
    ∙ key_of_found name_of rows c.requires.table c.from_be_bytes-key.result c.in-Ok.index row
    c.in-Ok.ensures.bound c.index-rows-index.is by_key
    ∙ is_key tag (are_bytes_of tag c.type_inv.tag) c.args.end c.requires.inside c.args.padded c.requires.padded
    c.from_be_bytes-key.result c.from_be_bytes-key.ensures

pub returns-in-Ok-clause-row : goal.returns-in-Ok-clause-row
returns-in-Ok-clause-row g c =
    let name_of = g.R.Row.name in
    let rows = c.args.rows.now in
    let tag = c.args.tag.now in
    let name = compared (take c.args.end tag) in
    let row = c.index-rows-index.result in
    let bytes = are_bytes_of tag c.type_inv.tag in
    let bound = c.in-Ok.ensures.bound in
    let by_key = c.in-Ok.ensures.position (λ row. from_be_bytes w128 (name_of row))
    (answers_always _ _ _ (λ f a r next called. search rules)) in
    let key_of_name = is_key tag bytes c.args.end c.requires.inside c.args.padded c.requires.padded
    c.from_be_bytes-key.result c.from_be_bytes-key.ensures in
    let found = searched name_of rows c.requires.table name c.from_be_bytes-key.result key_of_name
    (Ok c.in-Ok.index) bound by_key row c.index-rows-index.is in
    let named = c.is_named.ensures ∙ ap (λ t. bytes_eq (unpadded t) name) c.name.ensures in
    ap (row_at rows) c.then_some.ensures
    ∙ row_at-then_some rows c.is_named.result c.in-Ok.index row bound
    ∙ ap (λ r. cond c.is_named.result (Some r) None) (sym c.index-rows-index.is)
    ∙ ap (λ b. cond b (Some row) None) named ∙ sym found

pub returns-in-Ok-clause-longer : goal.returns-in-Ok-clause-longer
returns-in-Ok-clause-longer g c = λ none.
    let name_of = g.R.Row.name in
    let rows = c.args.rows.now in
    let tag = c.args.tag.now in
    let bytes = are_bytes_of tag c.type_inv.tag in
    let key = c.from_be_bytes-key.result in
    let by_key = c.in-Ok.ensures.position (λ row. from_be_bytes w128 (name_of row))
    (answers_always _ _ _ (λ f a r next called. search rules)) in
    none_longer name_of rows c.requires.table tag bytes c.args.end (c.in-Ok.index + 1) key c.requires.inside
    c.requires.ends (is_key tag bytes c.args.end c.requires.inside c.args.padded c.requires.padded key
    c.from_be_bytes-key.ensures)
    (at_most_ok name_of rows c.requires.table key c.in-Ok.index c.in-Ok.ensures.bound by_key)
    (c.is_near.ensures none)

pub returns-in-Err-clause-row : goal.returns-in-Err-clause-row
returns-in-Err-clause-row g c =
    let tag = c.args.tag.now in
    let bytes = are_bytes_of tag c.type_inv.tag in
    let key = c.from_be_bytes-key.result in
    let by_key = c.in-Err.ensures.position (λ row. from_be_bytes w128 (g.R.Row.name row))
    (answers_always _ _ _ (λ f a r next called. search rules)) in
    sym (searched g.R.Row.name c.args.rows.now c.requires.table (compared (take c.args.end tag)) key
    (is_key tag bytes c.args.end c.requires.inside c.args.padded c.requires.padded key
    c.from_be_bytes-key.ensures)
    (Err c.in-Err.index) c.in-Err.ensures.bound by_key)

pub returns-in-Err-clause-longer : goal.returns-in-Err-clause-longer
returns-in-Err-clause-longer g c = λ none.
    let name_of = g.R.Row.name in
    let rows = c.args.rows.now in
    let tag = c.args.tag.now in
    let bytes = are_bytes_of tag c.type_inv.tag in
    let key = c.from_be_bytes-key.result in
    let by_key = c.in-Err.ensures.position (λ row. from_be_bytes w128 (name_of row))
    (answers_always _ _ _ (λ f a r next called. search rules)) in
    none_longer name_of rows c.requires.table tag bytes c.args.end c.in-Err.index key c.requires.inside
    c.requires.ends (is_key tag bytes c.args.end c.requires.inside c.args.padded c.requires.padded key
    c.from_be_bytes-key.ensures)
    (at_most_err name_of rows c.requires.table key c.in-Err.index c.in-Err.ensures.bound by_key)
    (c.is_near-in-Err.ensures none)
