use Rattle.std.proofs.{Common.{◌≡◌, ℕ, zero, suc, ◌<◌, ◌≤◌, List, [], ◌∷◌, ◌++◌, length, take, drop, cond, false, Option, Some, None, refl, sym, ap, ◌∙◌, arith}, lemmas.Str.Pattern.starts_text}
use Rattle.std.specs.{Prelude.MatchOption, Borrow.Bor, Option.option_map, Str.Pattern.{FindsText, LacksTextAt, SplitsAroundMatch}}
use Rattle.cli.specs.TextCategory.{ends_of}
use Rattle.cli.proofs.plural.text_rules.split_ends.Goals as goal

abbrev dots : List ℕ
dots = 46 ∷ 46 ∷ []

abbrev after : ℕ → List ℕ × List ℕ → List ℕ × List ℕ
after b ends = (b ∷ ends.0, ends.1)

-- a text without `..` at its first byte is split where the rest is
ends_of-tail : (b : ℕ) (bs : List ℕ) → LacksTextAt dots (b ∷ bs) 0
    → ends_of (b ∷ bs) ≡ option_map (after b) (ends_of bs)
ends_of-tail b bs lacks =
    ap (λ v. cond v (Some ([], drop 1 bs)) (option_map (after b) (ends_of bs)))
    (sym (starts_text false dots (b ∷ bs) lacks))

ends_of-none : (bs : List ℕ) → ((i : ℕ) → i ≤ length bs → LacksTextAt dots bs i) → ends_of bs ≡ None
ends_of-none [] lacks = refl
ends_of-none (b ∷ bs) lacks =
    ends_of-tail b bs (lacks 0 (omega arith))
    ∙ ap (option_map (after b)) (ends_of-none bs (λ i l. lacks (suc i) (omega (arith, l))))

ends_of-first : (bs rest : List ℕ) (i : ℕ) → ((k : ℕ) → k < i → LacksTextAt dots bs k) → drop i bs ≡ dots ++ rest
    → ends_of bs ≡ Some (take i bs, rest)
ends_of-first bs rest zero lacks is = ap ends_of is
ends_of-first [] rest (suc i) lacks is = absurd (cc)
ends_of-first (b ∷ bs) rest (suc i) lacks is =
    ends_of-tail b bs (lacks 0 (omega arith))
    ∙ ap (option_map (after b)) (ends_of-first bs rest i (λ k l. lacks (suc k) (omega (arith, l))) is)

split : (text : List ℕ) (r : Option (Bor (List ℕ) × Bor (List ℕ)))
    → MatchOption r (FindsText dots text None) (λ x. SplitsAroundMatch (FindsText dots) text x.0.now x.1.now)
    → option_map (λ ends. (ends.0.now, ends.1.now)) r ≡ ends_of text
split text None lacks = sym (ends_of-none text lacks)
split text (Some ends) (i, j, found, front, back, _, _, _) =
    rw (front, back) (sym (ends_of-first text (drop j text) i found.0 found.1.split))

pub returns : goal.returns
returns c = split c.args.text.now c.split_once.result c.split_once.ensures.cases
