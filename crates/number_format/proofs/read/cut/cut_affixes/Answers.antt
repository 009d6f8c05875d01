use Rattle.std.proofs.{Common.{◌≡◌, ◌≢◌, ℕ, List, ◌++◌, sym, ◌∙◌, ap, Bor}, lemmas.List.append_cancel_left}
use Rattle.std.specs.Prelude.{Option, Some, None, MatchOption}
use Rattle.number_format.proofs.read.cut.cut_affixes.Goals as goal

joined : (text p q rest : List ℕ) (r : Option (Bor (List ℕ))) → text ≡ p ++ rest
    → MatchOption r ((front : List ℕ) → rest ≢ front ++ q) (λ x. rest ≡ x.now ++ q)
    → MatchOption r ((middle : List ℕ) → text ≢ p ++ (middle ++ q)) (λ x. text ≡ p ++ (x.now ++ q))
joined text p q rest None is e = λ m h. e m (append_cancel_left p rest (m ++ q) (sym is ∙ h))
joined text p q rest (Some x) is e = is ∙ ap (λ l. p ++ l) e

pub returns-in_err-cut : goal.returns-in_err-cut
returns-in_err-cut c =
    rw c.from_residual.ensures (λ m. c.in_err-cut.ensures (m ++ c.args.suffix.now))

pub returns : goal.returns
returns c =
    joined c.args.text.now c.args.prefix.now c.args.suffix.now c.in_ok-cut.field-0.now c.cut_end.result
    c.in_ok-cut.ensures c.cut_end.ensures
