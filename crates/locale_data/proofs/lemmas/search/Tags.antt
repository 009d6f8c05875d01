-- Tags up to a hyphen.
use Rattle.std.proofs.{Common.{◌≡◌, ℕ, ◌+◌, ◌<◌, ◌==◌, nat_eq, true, false, ◌&&◌, ◌||◌, Some, cond, List, [], ◌∷◌, length, get_or, drop, refl, ap, ◌∙◌, arith}, Math.Dec.eqb-suc-suc, lemmas.{Bool.Decides.nat_tests, List.at_drop_more}}
use Rattle.std.specs.List.{starts_with}
use Rattle.locale_data.specs.Tag.{tag_byte, compared, is_tag_prefix, from_first, before_text}

-- a tag is a part, or has a hyphen after it
pub hyphen : (part tag : List ℕ)
    → is_tag_prefix part tag
    ≡ (starts_with nat_eq (compared tag) part
    && ((length tag == length part) || (tag_byte (get_or tag (length part) 0) == 45)))
hyphen [] [] = refl
hyphen [] (b ∷ bs) = grind (arith, nat_tests)
hyphen (p ∷ []) [] = elim (nat_eq p 45) as (λ v. v && false ≡ false) [ true ↦ refl | false ↦ refl ]
hyphen (p ∷ q ∷ ps) [] = elim (nat_eq p 45) as (λ v. v && false ≡ false) [ true ↦ refl | false ↦ refl ]
hyphen (p ∷ ps) (b ∷ bs) =
    let e = hyphen ps bs in
    let s = eqb-suc-suc (length bs) (length ps) in
    grind (arith, nat_tests, e, s)

-- where a text is not at an index, its first occurrence is after it
pub from_first-tail : (text tag : List ℕ) (i : ℕ) → i < length tag
    → starts_with nat_eq (compared (drop i tag)) text ≡ false
    → from_first text (drop i tag) ≡ from_first text (drop (i + 1) tag)
from_first-tail text tag i inside none =
    let d = at_drop_more (λ xs. xs) tag i 0 inside in
    let h = ap (λ xs. starts_with nat_eq (compared xs) text) d in
    let rest = drop (i + 1) tag in
    let all = get_or tag i 0 ∷ rest in
    let absent : starts_with nat_eq (compared all) text ≡ false = cc in
    ap (from_first text) d ∙ ap (λ v. cond v (Some all) (from_first text rest)) absent

-- where a text is not at an index, the part before its first occurrence has one byte more
pub before_text-tail : (text tag : List ℕ) (i : ℕ) → i < length tag
    → starts_with nat_eq (compared (drop i tag)) text ≡ false
    → before_text text (drop i tag) ≡ get_or tag i 0 ∷ before_text text (drop (i + 1) tag)
before_text-tail text tag i inside none =
    let d = at_drop_more (λ xs. xs) tag i 0 inside in
    let h = ap (λ xs. starts_with nat_eq (compared xs) text) d in
    let rest = drop (i + 1) tag in
    let all = get_or tag i 0 ∷ rest in
    let absent : starts_with nat_eq (compared all) text ≡ false = cc in
    ap (before_text text) d ∙ ap (λ v. cond v [] (get_or tag i 0 ∷ before_text text rest)) absent
