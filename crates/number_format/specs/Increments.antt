use Rattle.std.specs.{Prelude.{ℕ, ◌==◌, Bool, [], ◌∷◌}, List.list_any}

-- the number is one of the increments of ECMA-402
abbrev pub is_increment : ℕ → Bool
is_increment n =
    list_any (λ i. i == n)
    (1 ∷ 2 ∷ 5 ∷ 10 ∷ 20 ∷ 25 ∷ 50 ∷ 100 ∷ 200 ∷ 250 ∷ 500 ∷ 1000 ∷ 2000 ∷ 2500 ∷ 5000 ∷ [])
