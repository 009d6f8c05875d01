-- Lists that are equal in two parts, which may overlap.
use Rattle.std.proofs.{Common.{◌≡◌, ℕ, ◌+◌, ◌-◌, ◌≤◌, ◌++◌, List, length, take, drop, sym, ◌∙◌, ap, arith, ◌↔◌}, lemmas.List.{drop-drop, length-drop, take-append-drop, take_all}}

-- if a fact says that the last k items are equal, and the first n of at most n + k are, it says that the lists are
pub by_ends : (P : Type 0) (n k : ℕ) (xs ys : List ℕ) → length xs ≡ length ys → k ≤ length xs → length xs ≤ n + k
    → take n xs ≡ take n ys → P ↔ (take k (drop (length xs - k) xs) ≡ take k (drop (length xs - k) ys)) → P ↔ (xs ≡ ys)
by_ends P n k xs ys len enough few same says =
    let i = length xs - k in
    let left : take k (drop i xs) ≡ drop i xs = take_all k (drop i xs) (omega (arith, length-drop i xs)) in
    let right : take k (drop i ys) ≡ drop i ys = take_all k (drop i ys) (omega (arith, length-drop i ys)) in
    let at : i + (n - i) ≡ n = omega arith in
    let rest : drop i xs ≡ drop i ys → drop n xs ≡ drop n ys = λ e.
    rw at at (sym (drop-drop (n - i) i xs) ∙ ap (drop (n - i)) e ∙ drop-drop (n - i) i ys) in (
      λ p. sym (take-append-drop n xs) ∙ (λ j. same j ++ rest (sym left ∙ says.0 p ∙ right) j)
          ∙ take-append-drop n ys,
      λ e. says.1 (left ∙ ap (drop i) e ∙ sym right),
    )
