use Rattle.std.proofs.{Common.{◌≡◌, ◌≢◌, ℕ, List, [], ◌∷◌, false, refl, sym, ap, ◌∙◌, ne_eqb, arith}, lemmas.Str.Pattern.strip_prefix_char}
use Rattle.std.specs.Prelude.{◌==◌, slice_index}
use Rattle.cli.proofs.words.columns.by_name.Goals as goal

no_equals_sign : (text : List ℕ) → ((name : List ℕ) → text ≢ 61 ∷ name) → (slice_index text 0 == 61) ≡ false
no_equals_sign [] other = refl
no_equals_sign (first ∷ name) other = ne_eqb first 61 (λ is. other name (ap (λ byte. byte ∷ name) is))

pub returns : goal.returns
returns c =
    let other = rw c.in_default.is at (strip_prefix_char 61 c.args.text.now c.strip_prefix.result
    c.strip_prefix.ensures.cases (omega arith)) in
    rw (no_equals_sign c.args.text.now other, sym c.are_digits.ensures ∙ c.if-are_digits.false) refl
