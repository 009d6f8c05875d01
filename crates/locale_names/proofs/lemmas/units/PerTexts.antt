-- The first `-per-` of a text, from an index on.
use Rattle.std.proofs.{Common.{◌≡◌, ℕ, ◌+◌, ◌<◌, nat_eq, false, Some, cond, List, ◌∷◌, length, get_or, drop, ap, ◌∙◌}, lemmas.List.at_drop_more}
use Rattle.std.specs.{Prelude.codes, List.starts_with}
use Rattle.locale_names.specs.Units.{per_from}

pub per_from-tail : (text : List ℕ) (i : ℕ) → i < length text
    → starts_with nat_eq (drop i text) (codes "-per-") ≡ false
    → per_from i (drop i text) ≡ per_from (i + 1) (drop (i + 1) text)
per_from-tail text i inside none =
    let d = at_drop_more (λ xs. xs) text i 0 inside in
    let rest = drop (i + 1) text in
    let absent : starts_with nat_eq (get_or text i 0 ∷ rest) (codes "-per-") ≡ false = cc in
    ap (per_from i) d ∙ ap (λ v. cond v (Some i) (per_from (i + 1) rest)) absent
