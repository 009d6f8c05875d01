use Rattle.std.proofs.{Common.{◌≡◌, ◌∙◌, ◌||◌, Bool, List, [], ◌∷◌, map, refl, ap, rules, tests}, lemmas.Iterator.{YieldsList-from_slice, Search.any_from_yields_List}}
use Rattle.std.specs.List.{list_any}
use Rattle.locale_data.specs.{declared.tables.{plurals.TheConstants.PLURAL_RELATIONS, rows.plurals.RelationRow.RelationRow}, PluralRows.relation_of, Plurals.is_equation, Rows.part}
use Rattle.locale_data.proofs.plural_rows.have_equation.Goals as goal

any_map : {X Y : Type 0} (q : Y → Bool) (f : X → Y) (xs : List X) → list_any (λ x. q (f x)) xs ≡ list_any q (map f xs)
any_map q f [] = refl
any_map q f (x ∷ xs) = ap (λ b. q (f x) || b) (any_map q f xs)

pub returns : goal.returns
returns c =
    let rows = c.part.result.now in
    let test : RelationRow → Bool = λ row. is_equation c.args.operand c.args.number (relation_of row) in
    let any : c.any.result ≡ list_any test rows =
    any_from_yields_List test _ _ c.any.result c.any.ensures.ran (YieldsList-from_slice rows cc)
    (λ x b q k. search (rules, tests)) in
    (rw c.part.ensures at any)
    ∙ any_map (is_equation c.args.operand c.args.number) relation_of (part PLURAL_RELATIONS c.args.relations)
