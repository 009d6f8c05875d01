use Rattle.std.proofs.{Common.{◌≡◌, ◌≢◌, ℕ, List, ◌++◌, sym, ◌∙◌, ap}, lemmas.List.append_cancel_left}
use Rattle.std.specs.Prelude.{Option, Some, None, MatchOption}
use Rattle.decimal_format.proofs.symbols.DecimalSymbols.cut_affixes.Goals as goal

joined : {T : Type 0} (bytes : T → List ℕ) (text p q a b rest : List ℕ) (r : Option T) → p ≡ a → q ≡ b
    → text ≡ p ++ rest → MatchOption r ((front : List ℕ) → rest ≢ front ++ q) (λ x. rest ≡ bytes x ++ q)
    → MatchOption r ((middle : List ℕ) → text ≢ a ++ (middle ++ b)) (λ x. text ≡ a ++ (bytes x ++ b))
joined bytes text p q a b rest None e f is m = λ middle h.
    m middle (append_cancel_left p rest (middle ++ q) (sym is ∙ h ∙ (λ i. (sym e) i ++ (middle ++ (sym f) i))))
joined bytes text p q a b rest (Some x) e f is m = is ∙ (λ i. e i ++ m i) ∙ ap (λ l. a ++ (bytes x ++ l)) f

pub returns : goal.returns
returns g c =
    joined g.T.Input.bytes (g.T.Input.bytes c.args.text) _ _ _ _ (g.T.Input.bytes c.in_ok-rest.rest)
    c.cut_suffix.result c.new.ensures c.new-2.ensures c.in_ok-rest.ensures c.cut_suffix.ensures
