use Rattle.std.proofs.{Common.{◌≡◌, ◌≢◌, ℕ, suc, ◌<◌, List, [], ◌∷◌, length, get_or, None, false, refl, arith, ne_eqb}, lemmas.Str.Pattern.NoCharPasses-char}
use Rattle.std.specs.List.{list_any}
use Rattle.conversions.specs.Parameters.{is_colon, option_of}
use Rattle.conversions.proofs.parameters.split_parameters.Goals as goal

no_colon : (xs : List ℕ) → ((i : ℕ) → i < length xs → get_or xs i 0 ≢ 58) → list_any is_colon xs ≡ false
no_colon [] none = refl
no_colon (x ∷ xs) none =
    rw (ne_eqb x 58 (none 0 (omega arith))) (no_colon xs (λ i l. none (suc i) (omega arith)))

no_option : (xs : List ℕ) → list_any is_colon xs ≡ false → None ≡ option_of xs
no_option xs none = rw none refl

pub returns-in-None-clause-option : goal.returns-in-None-clause-option
returns-in-None-clause-option c =
    no_option c.args.parameters.now
    (no_colon c.args.parameters.now
    (λ i l. NoCharPasses-char 58 c.args.parameters.now i c.in-None.ensures.cases (omega arith) l))
